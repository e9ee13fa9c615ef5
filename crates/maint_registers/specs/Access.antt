-- What is read in a register, what a write makes of it, and what either comes to.
use Rattle.std.specs.Prelude.{ℕ, ◌+◌, ◌*◌, ◌/◌, ◌%◌, ◌==◌, Option, Some, None, option_map, unwrap_or, slice_set, if◌then◌else◌}
use Rattle.std.specs.Option.{option_and_then}
use Rattle.maint_registers.specs.declared.table.Register.{Register}
use Rattle.maint_registers.specs.declared.table.Register.TheVariants.{Fixed, PortInformation, BaseId, HostLock, ComponentTag, RouteSelect, RouteEntry, DefaultPort}
use Rattle.maint_registers.specs.Devices.{Registers}
use Rattle.maint_registers.specs.Table.{register_at}
use Rattle.maint_registers.specs.Routes.{entry_of}

-- what a request that came to a port reads in a register; bits without a meaning are 0
abbrev pub value_of : Registers → ℕ → Register → ℕ
value_of device port (Fixed value) = value
value_of device port PortInformation = device.ports * 0x100 + port
value_of device port BaseId = device.base_id * 0x10000 + device.large_id
value_of device port HostLock = device.lock
value_of device port ComponentTag = device.tag
value_of device port RouteSelect = device.select
value_of device port RouteEntry = entry_of device device.select
value_of device port DefaultPort = device.default_port

-- what it reads at an offset, if a register stands there
abbrev pub value_at : Registers → ℕ → ℕ → Option ℕ
value_at device offset port = option_map (value_of device port) (register_at device offset)

-- The lock after the ID of a host is written to it: a free lock is taken, the holder's own ID frees
-- it, and any other ID leaves it.
abbrev pub locked : ℕ → ℕ → ℕ
locked lock id = if lock == 0xffff then id else (if lock == id then 0xffff else lock)

-- the device after a write to a register, if that can be written
abbrev pub written_to : Registers → ℕ → Register → Option Registers
written_to device value (Fixed shown) = None
written_to device value PortInformation = None
written_to device value BaseId = Some (record device { base_id = value / 0x10000 % 0x100 })
written_to device value HostLock =
    Some (record device { lock = locked device.lock (value % 0x10000) })
written_to device value ComponentTag = Some (record device { tag = value })
written_to device value RouteSelect = Some (record device { select = value % 0x400 })
written_to device value RouteEntry =
    Some (record device { routes = slice_set device.routes device.select (value % 0x100) })
written_to device value DefaultPort = Some (record device { default_port = value % 0x100 })

-- the device after a write to an offset, if a register stands there that can be written
abbrev pub written_at : Registers → ℕ → ℕ → Option Registers
written_at device offset value =
    option_and_then (written_to device value) (register_at device offset)

-- What an access to a register comes to: the value that it gives if it is carried out, 0 of a
-- write, and the registers after it.
pub record Accessed : Type 0 where
  pub value : Option ℕ
  pub device : Registers

-- a read that came to a port; it changes nothing
abbrev pub read_from : Registers → ℕ → ℕ → Accessed
read_from device offset port = record { value = value_at device offset port; device = device }

-- a write; it changes nothing if it is not carried out
abbrev pub write_into : Registers → ℕ → ℕ → Accessed
write_into device offset value = record {
  value = option_map (λ next. 0) (written_at device offset value);
  device = unwrap_or (written_at device offset value) device;
}

-- the status with which an access is answered: 0 if it was carried out, else 7
abbrev pub access_status : Option ℕ → ℕ
access_status (Some value) = 0
access_status None = 7
