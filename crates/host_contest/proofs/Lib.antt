mod Prelude
pub mod Machines
pub mod Stepping
mod Lows
