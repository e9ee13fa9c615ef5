pub mod Layout
pub mod Requests
pub mod Responses
pub mod Answers
pub mod NextHops
pub mod Laws
