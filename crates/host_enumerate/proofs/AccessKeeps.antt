-- An access leaves a device what it is.
use Rattle.host_enumerate.proofs.Prelude.{ℕ, Registers, write_same, Access, Read, Write, answered}
use Rattle.maint_registers.proofs.KeepLaws.{write_device, write_id, write_lock}
use Rattle.host_enumerate.proofs.Accessed.{Keeps, keeps_itself}

pub access_keeps : (device : Registers) (port : ℕ) (access : Access)
    → Keeps device (answered device port access).device
access_keeps device port (Read offset) = keeps_itself device
access_keeps device port (Write offset value) = record {
  same = write_same device offset value;
  device = write_device device offset value;
  id = write_id device offset value;
  lock = write_lock device offset value;
}
