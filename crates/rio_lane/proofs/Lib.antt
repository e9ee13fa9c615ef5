pub mod AnswerLaws
pub mod LineLaws
pub mod ReadBackLaws
pub mod TextLaws
pub mod WordLaws
