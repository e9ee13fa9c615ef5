-- Links at rest.
pub mod RoundsRest
pub mod Resting
pub mod RunsRest
