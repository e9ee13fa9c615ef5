pub mod Names
pub mod Items
pub mod Stimuli
pub mod Counting
pub mod Tolerances
pub mod Saying
