pub mod Table
pub mod Tables
pub mod Frame
pub mod Suits
pub mod DemandThree
pub mod Due
pub mod Answers
