pub mod Answers
pub mod Plays
pub mod RightDevices
pub mod Reference
pub mod Report
pub mod Program
