pub mod AnswerLaws
pub mod PlayLaws
pub mod AskLaws
pub mod FeedLaws
pub mod RightTexts
pub mod PassLaws
pub mod ReferenceLaws
