pub mod Float32
pub mod Ops
pub mod Numbers
pub mod Encoding
