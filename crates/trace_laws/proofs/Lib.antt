mod Prelude
pub mod Views
pub mod Served
pub mod Called
pub mod Running
pub mod Retries
pub mod ActedSent
pub mod Failing
