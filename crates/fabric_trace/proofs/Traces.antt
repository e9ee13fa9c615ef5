-- Each script has one trace, and it ends.
pub mod Unique
pub mod Forming
pub mod Existing
pub mod Ending
pub mod Giving
pub mod Tracing
