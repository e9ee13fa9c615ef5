pub mod GroupTexts
