pub mod Views
pub mod Slots
pub mod Due
pub mod Invariant
pub mod Events
pub mod Lawful
pub mod Stops
pub mod Frame
