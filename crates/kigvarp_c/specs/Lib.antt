pub mod HandlesOwn
pub mod Calls
pub mod Handles
pub mod Checkers
