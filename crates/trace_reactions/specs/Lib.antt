pub mod InputHalves
pub mod Judged
pub mod Judging
pub mod PortsKept
pub mod Reactions
