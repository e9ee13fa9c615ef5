pub mod FaceLaws
pub mod OrderLaws
pub mod RequestLaws
pub mod StepLaws
pub mod GoingLaws
pub mod FirstSteps
pub mod CollectLaws
