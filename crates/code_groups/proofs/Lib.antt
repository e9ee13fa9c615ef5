pub mod BlockLaws
pub mod Characters
pub mod CommaLaws
pub mod Plain
pub mod PublishedLaws
pub mod StreamLaws
pub mod TableLaws
