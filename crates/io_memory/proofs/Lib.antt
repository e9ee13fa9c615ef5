pub mod MeetLaws
pub mod AnswerLaws
mod ToldBack
