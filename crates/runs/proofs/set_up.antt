pub mod Due
pub mod Invariant
pub mod Frame
