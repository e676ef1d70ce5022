pub mod Step
pub mod Search
pub mod Stepping
