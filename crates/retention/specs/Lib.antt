-- The definitions that the contracts of `retention` cite, and the claims of its laws.
pub mod SampleSize
pub mod Trials
pub mod Retention
pub mod Laws
