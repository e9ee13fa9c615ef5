pub mod Kept
pub mod Heads
pub mod Deliveries
pub mod Acting
pub mod Wires
pub mod Prelude
