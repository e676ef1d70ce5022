pub mod Exp
pub mod Ln
pub mod Power
pub mod Filled
pub mod Quick
pub mod Pow
pub mod Accuracy
pub mod Series
