pub mod Settings
pub mod Forecast
pub mod Laws
