pub mod Sums
pub mod Turns
pub mod Run
