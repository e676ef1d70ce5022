pub mod Refusals
pub mod Entry
pub mod Lists
