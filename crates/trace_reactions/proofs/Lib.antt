pub mod JudgedLaws
pub mod JudgingLaws
pub mod ReadingOn
pub mod SendingOn
