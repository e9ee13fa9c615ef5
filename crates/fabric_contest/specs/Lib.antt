pub mod Orders
pub mod Contests
pub mod LastTurns
pub mod Waits
pub mod ContestTexts
pub mod Laws
pub mod HostLaws
