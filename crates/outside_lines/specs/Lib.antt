pub mod Facing
pub mod Reading
