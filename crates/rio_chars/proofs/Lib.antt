pub mod FrontLaws
pub mod TakingLaws
pub mod SpacedLaws
pub mod UnlessLaws
pub mod WrittenLaws
pub mod FaultLaws
pub mod HexLaws
pub mod HexTable
mod DataTexts
pub mod RunLaws
pub mod HexWords
mod DecimalText
mod Given
pub mod CharLaws
