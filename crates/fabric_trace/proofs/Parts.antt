-- What lines lead to, part by part.
pub mod Folding
pub mod Keeping
pub mod Making
pub mod Quiet
pub mod Carrying
pub mod Fronting
