mod Prelude
pub mod Order
pub mod Lists
pub mod Walks
pub mod Leading
pub mod Maps
pub mod Firsts
pub mod Endpoints
pub mod Steps
pub mod Branches
pub mod Few
pub mod Growing
pub mod Given
pub mod Fronts
pub mod Routing
pub mod Tabled
pub mod Ways
pub mod EntryLaws
pub mod Worked
pub mod Ring
mod Numberings
