pub mod Changes
pub mod Commas
pub mod Disparities
pub mod Groups
pub mod Numbers
pub mod Published
pub mod Streams
