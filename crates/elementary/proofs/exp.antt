pub mod Error
pub mod Reduce
pub mod Cases
pub mod Law
