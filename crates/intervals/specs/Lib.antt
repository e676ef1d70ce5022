-- The definitions that the interval table's contracts cite.
pub mod Table
pub mod Bucket
pub mod Accuracy
pub mod Schedule
