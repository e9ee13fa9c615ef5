pub mod Lines
pub mod Statuses
pub mod Serving
pub mod Feeds
pub mod Asked
