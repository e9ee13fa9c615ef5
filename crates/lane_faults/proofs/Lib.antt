mod Prelude
pub mod AmongLaws
pub mod DeliveryLaws
pub mod FairLaws
pub mod LeadLaws
pub mod MistakeLaws
pub mod ReaderLaws
pub mod RunLaws
pub mod WrongBitLaws
