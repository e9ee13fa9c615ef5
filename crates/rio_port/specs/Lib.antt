pub mod Logs
pub mod Program
