-- The queue's laws, and the lemmas that its functions' proofs cite.
pub mod Loops
pub mod Order
pub mod Steps
pub mod Mixed
pub mod Settled
pub mod Queued
pub mod Change
pub mod Pop
pub mod Push
pub mod Keyed
pub mod Filled
pub mod Keys
pub mod Frame
