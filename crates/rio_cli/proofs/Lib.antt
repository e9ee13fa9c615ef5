pub mod AnswerLaws
pub mod HostLaws
pub mod ContestLaws
pub mod AccessLaws
pub mod AskLaws
pub mod NumberingLaws
pub mod CommandLaws
pub mod RefusalLaws
pub mod LineLaws
pub mod NumberLaws
mod DigitTables
mod SpacedWords
pub mod WordLaws
pub mod DecodeLaws
pub mod DecodeEach
pub mod HostEach
pub mod InputEach
pub mod SoakLaws
pub mod HintLaws
