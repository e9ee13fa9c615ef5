pub mod Layout
pub mod Forms
pub mod Reading
pub mod Writing
pub mod Serving
pub mod Laws
