-- Small runs worked out.
pub mod WorkedRuns
pub mod WorkedPacket
