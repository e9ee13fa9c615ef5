pub mod Stations
pub mod Tasks
pub mod RoundLines
pub mod Going
pub mod Calm
pub mod Drives
pub mod Course
pub mod Turns
