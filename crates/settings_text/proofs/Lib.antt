pub mod Scan
pub mod PartLaws
pub mod NumberLaws
pub mod SeveralLaws
pub mod LineLaws
pub mod Points
