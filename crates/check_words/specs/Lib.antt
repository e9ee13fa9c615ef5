pub mod Needs
pub mod Hints
pub mod Reasons
pub mod Kinds
pub mod BadPackets
pub mod Misfits
pub mod MisfitTexts
pub mod Forms
