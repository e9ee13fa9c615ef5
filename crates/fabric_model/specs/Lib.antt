pub mod Network
pub mod Serving
pub mod Steps
pub mod Laws
