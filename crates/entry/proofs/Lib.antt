pub mod FirstWhere
pub mod Tests
pub mod Lent
