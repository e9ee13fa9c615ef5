pub mod BitLaws
pub mod CrcLaws
pub mod SpellingLaws
pub mod ChangeLaws
pub mod StepLaws
