pub mod Error
pub mod Fixed
pub mod Parts
pub mod Rounding
pub mod Law
