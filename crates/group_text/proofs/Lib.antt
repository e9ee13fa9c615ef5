pub mod DigitLaws
pub mod ListLaws
