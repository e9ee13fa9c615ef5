pub mod ReadingLaws
pub mod SettingLaws
pub mod TracingLaws
pub mod InputLaws
pub mod TellingLaws
pub mod ReactingLaws
