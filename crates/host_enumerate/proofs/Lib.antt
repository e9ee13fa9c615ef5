mod Prelude
pub mod Accessed
pub mod AccessKeeps
pub mod Frames
pub mod PlainWalks
mod Pairs
pub mod Counting
pub mod Meeting
pub mod Stepping
mod Lengthening
pub mod TakingSwitch
pub mod TakingEndpoint
pub mod Askable
pub mod Keeping
pub mod Asked
pub mod Finishing
pub mod Opening
pub mod Carrying
mod Entries
pub mod Routing
mod Giving
pub mod Clearing
mod SettingUp
mod Holders
mod Preparing
mod Tagging
pub mod Shown
mod Trying
mod Tried
mod Looking
mod Looked
mod Exploring
mod Starting
mod Begun
mod Numbering
pub mod NewDevices
pub mod Devised
pub mod NewFabrics
pub mod LinesLeft
pub mod HostLaws
