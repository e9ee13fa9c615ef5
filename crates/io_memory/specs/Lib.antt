pub mod Meeting
pub mod Laws
pub mod MetLines
