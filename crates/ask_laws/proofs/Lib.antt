mod Prelude
mod Rounds
mod Ending
