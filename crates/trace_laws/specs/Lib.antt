pub mod LinksRun
pub mod Retries
pub mod ActedSent
pub mod Examples
