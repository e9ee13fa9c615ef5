pub mod Telling
pub mod Items
pub mod Replies
pub mod Laws
pub mod Asks
