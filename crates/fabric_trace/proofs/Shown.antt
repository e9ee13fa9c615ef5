-- The laws of a trace, all together.
pub mod Wiring
pub mod Faith
pub mod Failing
pub mod Shows
pub mod Sending
