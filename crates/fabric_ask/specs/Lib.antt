pub mod Only
pub mod Course
pub mod Noise
pub mod Asks
pub mod Travel
pub mod Own
pub mod Answered
pub mod Quiet
