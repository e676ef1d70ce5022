pub mod Common
pub mod Cubics
pub mod Filled
pub mod Points
pub mod Number
pub mod Laws
