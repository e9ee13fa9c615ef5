pub mod Knowing
pub mod Texts
