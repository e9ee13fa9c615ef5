-- What writes do, in the words of the table: which bits they change, and who holds a device; and
-- which port
-- shows a link that is set.
use Rattle.std.specs.Prelude.{◌≡◌, ◌≢◌, ℕ, ◌+◌, ◌*◌, ◌/◌, ◌%◌, ◌^◌, ◌<◌, ◌↔◌, Option, Some, None}
use Rattle.maint_registers.specs.declared.table.Register.{Register}
use Rattle.maint_registers.specs.declared.table.Register.TheVariants.{Fixed, PortInformation, BaseId, HostLock, ComponentTag, RouteSelect, RouteEntry, DefaultPort}
use Rattle.maint_registers.specs.Devices.{Registers, IsDevice, with_link}
use Rattle.maint_registers.specs.Table.{status_of, register_at, in_rows, standard_table}
use Rattle.maint_registers.specs.Access.{value_at, locked, write_into}
use Rattle.maint_registers.specs.Changes.{standard_shown}
use Rattle.maint_registers.specs.Within.{IsWithin}

-- some bits of a register: the lowest of them, and how many they are
pub record Bits : Type 0 where
  pub lowest : ℕ
  pub count : ℕ

-- the bits that a write to a register changes; the lock has a rule of its own
abbrev pub written_bits : Register → Option Bits
written_bits (Fixed value) = None
written_bits PortInformation = None
written_bits BaseId = Some record { lowest = 16; count = 8 }
written_bits HostLock = None
written_bits ComponentTag = Some record { lowest = 0; count = 32 }
written_bits RouteSelect = Some record { lowest = 0; count = 10 }
written_bits RouteEntry = Some record { lowest = 0; count = 8 }
written_bits DefaultPort = Some record { lowest = 0; count = 8 }

-- a value with these bits alone, where they stand
abbrev pub only : Bits → ℕ → ℕ
only bits value = value / 2 ^ bits.lowest % 2 ^ bits.count * 2 ^ bits.lowest

-- what a register shows in its other bits, which a write leaves: the ID of 16 bits beside that of 8
-- bits, else 0
abbrev pub other_bits : Registers → Register → ℕ
other_bits device BaseId = device.large_id
other_bits device register = 0

-- Whoever writes to a register then reads there what was written in the bits that a write changes,
-- and in all others what stood there.
abbrev pub ShowsWritten : Type 0
ShowsWritten = (device : Registers) (offset value port : ℕ) (register : Register) (bits : Bits)
    → IsDevice device
    → register_at device offset ≡ Some register
    → written_bits register ≡ Some bits
    → value < 2 ^ 32
    → value_at (write_into device offset value).device offset port
    ≡ Some (only bits value + other_bits device register)

-- What a register shows is its bits that a write changes, and its other bits beside them.
abbrev pub ShowsBoth : Type 0
ShowsBoth = (device : Registers) (offset port value : ℕ) (register : Register) (bits : Bits)
    → IsWithin device
    → register_at device offset ≡ Some register
    → written_bits register ≡ Some bits
    → value_at device offset port ≡ Some value
    → value ≡ only bits value + other_bits device register

-- A host that writes its ID to a lock holds the device afterwards exactly if the lock was free.
abbrev pub IsTakenIfFree : Type 0
IsTakenIfFree = (lock id : ℕ) → id ≢ 0xffff → (locked lock id ≡ id) ↔ (lock ≡ 0xffff)

-- Nobody but its holder frees a lock or takes it.
abbrev pub StaysForOthers : Type 0
StaysForOthers = (lock id : ℕ) → lock ≢ 0xffff → lock ≢ id → locked lock id ≡ lock

-- A write to any other register leaves the lock.
abbrev pub LockStays : Type 0
LockStays = (device : Registers) (offset value : ℕ) → offset ≢ 0x68
    → (write_into device offset value).device.lock ≡ device.lock

-- And a write to any other register leaves the tag.
abbrev pub TagStays : Type 0
TagStays = (device : Registers) (offset value : ℕ) → offset ≢ 0x6c
    → (write_into device offset value).device.tag ≡ device.tag

-- No write changes the ID of 16 bits.
abbrev pub LargeStays : Type 0
LargeStays = (device : Registers) (offset value : ℕ)
    → (write_into device offset value).device.large_id ≡ device.large_id

-- A port whose link is set shows it.
abbrev pub ShowsLink : Type 0
ShowsLink = (device : Registers) (port : ℕ)
    → status_of (record device { linked = with_link device.linked port }) port ≡ 2

-- And every other port shows what it showed.
abbrev pub OthersStay : Type 0
OthersStay = (device : Registers) (port other : ℕ) → other ≢ port
    → status_of (record device { linked = with_link device.linked port }) other
    ≡ status_of device other

-- A device that shows what standard hosts look for shows at every other offset what it showed.
abbrev pub StandardAdds : Type 0
StandardAdds = (device : Registers) (offset port : ℕ)
    → in_rows device.kind standard_table offset ≡ None
    → value_at (standard_shown device) offset port ≡ value_at device offset port
