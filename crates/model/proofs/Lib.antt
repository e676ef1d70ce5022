-- The laws of the model, and what its proofs share.
pub mod Numbers
pub mod Retentions
pub mod Exact
pub mod Laws
pub mod Runtime
pub mod Steps
pub mod Doubling
pub mod Fractions
pub mod Rounding
pub mod Powers
pub mod Patterns
pub mod Base
pub mod Mean
pub mod Retention
pub mod Ranges
pub mod Points
