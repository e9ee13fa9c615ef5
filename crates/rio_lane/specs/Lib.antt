pub mod FourAnswers
pub mod LaneAnswers
pub mod LaneLines
pub mod LaneProgram
pub mod ReadingBack
pub mod Tasks
