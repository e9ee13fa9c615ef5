pub mod Replaying
pub mod Going
pub mod Ending
pub mod Summing
