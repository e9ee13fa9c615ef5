pub mod Queues
pub mod Rings
pub mod Priorities
pub mod Prelude
