pub mod Digits
pub mod Lines
pub mod Rows
pub mod Canonical
pub mod DayText
