pub mod Accepted
pub mod Lent
pub mod turn
pub mod set_up
pub mod run
pub mod Demands
