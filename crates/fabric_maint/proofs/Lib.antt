mod Tables
mod Carried
mod Leading
mod Agreeing
pub mod Starting
pub mod Meeting
pub mod Making
pub mod Hosts
mod Owned
mod Told
mod Asking
mod Ending
