mod Prelude
pub mod Network
pub mod Links
pub mod Parts
pub mod Rounds
pub mod Rest
pub mod SetUps
pub mod Traces
pub mod Holds
pub mod Frees
pub mod Allowance
pub mod Shown
pub mod Worked
