mod Prelude
pub mod Noting
pub mod Delivering
pub mod DoesLaws
pub mod DeliverLaws
pub mod DrainLaws
pub mod PortTests
pub mod SendLaws
pub mod SettleLaws
pub mod IdleTurns
pub mod RestLaws
