pub mod Loops
pub mod State
