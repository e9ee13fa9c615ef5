pub mod Requests
pub mod Asked
pub mod AskEnds
pub mod Going
pub mod GoingLaws
pub mod Agreeing
