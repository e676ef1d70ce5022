pub mod Cases
pub mod Odd
pub mod Law
pub mod Series
