pub mod InputLaws
pub mod InputOnce
