-- What the lines of set-up make, and what begins from there.
pub mod SettingUp
pub mod Starting
pub mod KnownNetworks
pub mod Happening
pub mod Joins
pub mod Balancing
pub mod KindLaws
