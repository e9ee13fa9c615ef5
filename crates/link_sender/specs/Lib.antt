pub mod OutErrorStopped
pub mod Answers
