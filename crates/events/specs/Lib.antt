pub mod Scalars
pub mod Events
pub mod Drawn
