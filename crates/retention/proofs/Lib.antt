-- What the functions of the search share, and its laws.
pub mod Rounds
pub mod Entry
pub mod Apart
pub mod Laws
