pub mod FollowEnds
pub mod Following
pub mod Noting
pub mod Reacting
pub mod Telling
