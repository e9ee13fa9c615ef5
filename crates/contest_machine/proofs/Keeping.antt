pub mod Lists
pub mod Frame
pub mod Reading
pub mod Turning
pub mod Stepped
mod Staged
mod Freed
pub mod Apart
pub mod Greater
pub mod Owning
pub mod Few
pub mod Between
pub mod Bounding
