pub mod Texts
pub mod Call
pub mod Laws
