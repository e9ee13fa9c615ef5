pub mod Framing
pub mod Giving
pub mod Parts
