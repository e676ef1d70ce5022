-- What the proofs of several functions use, and what other crates cite.
pub mod Choice
pub mod Laws
pub mod Points
