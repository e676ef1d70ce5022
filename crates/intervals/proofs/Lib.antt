-- The interval table's laws, and the lemmas that its functions' proofs cite.
pub mod Numbers
pub mod Steps
pub mod Probe
pub mod Change
pub mod Held
pub mod Used
pub mod Emptied
pub mod Entered
pub mod Longer
pub mod Count
pub mod Schedule
pub mod Patterns
pub mod Logarithm
