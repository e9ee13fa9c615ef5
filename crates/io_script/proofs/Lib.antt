pub mod IoOutcome
pub mod IoLineLaws
pub mod IoReadLaws
pub mod IoThrough
pub mod IoOnce
pub mod IoFabric
pub mod IoTakes
pub mod IoWhole
pub mod IoNamed
mod IoLineWords
mod IoEach
