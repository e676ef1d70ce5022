pub mod Meet
pub mod Order
pub mod Shown
pub mod Parts
pub mod Arg
pub mod Law
pub mod Steps
pub mod Finite
