pub mod Curve
pub mod Line
pub mod Law
pub mod Fine
pub mod Words
