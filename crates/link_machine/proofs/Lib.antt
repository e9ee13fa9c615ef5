mod Prelude
pub mod Walking
pub mod Arriving
pub mod Flowing
pub mod Telling
pub mod Turning
pub mod Machine
pub mod Serving
pub mod Reversed
mod HeardInTime
pub mod InTime
pub mod Ways
pub mod Settling
