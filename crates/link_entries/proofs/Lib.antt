pub mod NumberLaws
pub mod ReadingLaws
pub mod TurningLaws
pub mod HeardMet
pub mod TurnMet
pub mod TimeOutMet
pub mod ArrivedMet
pub mod ReadMet
