mod Prelude
pub mod Ports
pub mod Bytes
pub mod Events
pub mod Gots
pub mod GotsInBlocks
pub mod Ending
pub mod Sending
pub mod Stepping
pub mod Wiring
pub mod Spelling
pub mod Inputs
