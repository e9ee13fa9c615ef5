pub mod ServingLaws
pub mod SettingsLaws
pub mod LogLaws
