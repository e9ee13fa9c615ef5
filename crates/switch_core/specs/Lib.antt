pub mod Faces
pub mod Order
pub mod SwitchSteps
pub mod Goings
pub mod EndpointSteps
