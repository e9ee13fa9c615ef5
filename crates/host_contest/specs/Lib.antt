pub mod Machines
pub mod Reaching
pub mod Steps
pub mod Walkers
