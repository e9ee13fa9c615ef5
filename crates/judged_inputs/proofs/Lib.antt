mod Prelude
pub mod Choices
pub mod WordChoice
pub mod RowChoice
pub mod LineWords
pub mod BegunChoice
pub mod SpellingChoice
pub mod NeedChoice
pub mod FaultChoice
pub mod Judging
