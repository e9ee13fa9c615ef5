-- Blocks and the rounds of a run.
pub mod Blocks
pub mod Running
pub mod RoundsEnd
pub mod WithinBlocks
