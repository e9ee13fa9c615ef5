pub mod Reasons
pub mod Advising
pub mod Citing
