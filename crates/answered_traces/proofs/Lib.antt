mod Prelude
pub mod Following
pub mod Ports
pub mod PortCalls
pub mod PartsKept
pub mod PartsCalled
pub mod PartsMade
pub mod SetUpKept
pub mod RunsAnswered
