pub mod Day
pub mod Cards
pub mod Choices
pub mod Config
