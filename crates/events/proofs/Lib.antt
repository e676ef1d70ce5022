pub mod Loops
pub mod Costs
