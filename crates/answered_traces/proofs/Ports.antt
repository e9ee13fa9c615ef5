-- What a port does at its link, as the judge of reactions sees it.
pub mod Silence
pub mod OneEvent
pub mod Owing
