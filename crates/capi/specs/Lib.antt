-- The definitions that the contracts of `capi` cite.
pub mod Answer
pub mod State
pub mod Search
