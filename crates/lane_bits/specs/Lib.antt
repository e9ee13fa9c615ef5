pub mod Aligning
pub mod BitHearing
