pub mod ServingLaws
pub mod EndingLaws
pub mod FailingLaws
