pub mod Curve
pub mod Digits
pub mod Value
pub mod Words
