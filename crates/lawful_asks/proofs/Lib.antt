mod Prelude
mod Passing
mod AskLines
mod LawfulAsks
mod AskInputs
