pub mod AskTexts
