pub mod Squaring
pub mod Ends
pub mod Log
pub mod Cases
pub mod Law
pub mod Steps
