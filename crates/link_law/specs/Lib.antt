pub mod Answers
pub mod Carried
pub mod Does
pub mod Resting
