pub mod Faults
pub mod BadWords
pub mod Help
pub mod Usage
pub mod Places
