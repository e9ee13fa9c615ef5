pub mod BitsLaws
pub mod DivisionLaws
pub mod Entries
