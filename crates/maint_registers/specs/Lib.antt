pub mod Devices
pub mod Table
pub mod Access
pub mod Routes
pub mod Laws
pub mod Inside
pub mod Within
pub mod Changes
