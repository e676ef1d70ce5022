pub mod Quoted
pub mod Text
pub mod Places
pub mod Numbers
pub mod With
pub mod Forms
