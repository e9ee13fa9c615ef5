pub mod TellingLaws
pub mod CountLaws
pub mod JudgeLaws
pub mod ItemLaws
pub mod OnceLaws
pub mod StimulusLaws
