pub mod IoForms
pub mod IoLines
pub mod IoReasons
pub mod IoWords
pub mod IoReading
pub mod IoTaking
pub mod IoScripts
