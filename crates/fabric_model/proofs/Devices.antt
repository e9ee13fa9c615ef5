-- What a change of one device does to the registers of a network.
pub use Rattle.maint_registers.proofs.ChangeLaws.{length-with_device, device-changed, device-kept, map-with_device, kinds_stay}
