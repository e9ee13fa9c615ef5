pub mod Among
pub mod LaneRuns
pub mod Mistakes
pub mod WrongBits
