pub mod Spans
pub mod Laws
pub mod Due
pub mod Frame
