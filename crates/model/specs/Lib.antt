pub mod Constants
pub mod Model
pub mod Accuracy
pub mod Runtime
pub mod Defaults
