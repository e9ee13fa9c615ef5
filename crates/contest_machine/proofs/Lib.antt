mod Prelude
pub mod Keeping
pub mod Turns
pub mod Numbering
pub mod Asking
pub mod Walking
