-- What devices do with their own registers, without a packet.
use Rattle.std.specs.Prelude.{◌≡◌, ◌↔◌, ℕ, zero, suc, Bool, length, IsTrue, IsSome, List, [], Some, unwrap_or, slice_get}
use Rattle.maint_registers.specs.Access.{written_at}
use Rattle.maint_registers.specs.Changes.{standard_shown}
use Rattle.maint_registers.specs.Devices.{Registers}
use Rattle.fabric_model.specs.Network.{IsEndpoint}
use Rattle.fabric_trace.specs.Fold.{seen}
use Rattle.fabric_trace.specs.Known.{Seen}
use Rattle.fabric_trace.specs.Settings.{with_change}
use Rattle.trace_lines.specs.Lines.{TraceLine}
use Rattle.fabric_ask.specs.Own.{with_own}
use Rattle.fabric_ports.specs.Asking.{CanAsk}
use Rattle.fabric_ports.specs.Standing.{Stands}
use Rattle.fabric_ports.specs.declared.fabric.Fabric.{Fabric}

-- the fabric stands for some lines, and the node is an endpoint
pub record HasEndpoint (fabric : Fabric) (node : ℕ) : Type 0 where
  pub from : Seen
  pub lines : List TraceLine
  pub stands : Stands from lines fabric
  pub endpoint : IsEndpoint (seen from lines).network node

-- a device after a write to an offset: the same if no register there can be written
abbrev pub device_with : Registers → ℕ → ℕ → Registers
device_with device offset value = unwrap_or (written_at device offset value) device

-- what is known, with the registers of a node after such a write
abbrev pub seen_with : ℕ → Registers → ℕ → ℕ → Seen → Seen
seen_with node device offset value s = with_own node (device_with device offset value) s

-- An endpoint wrote one of its registers, if a register stands there that can be written. The
-- fabric stands from what was known, with these registers, and a host may ask if it might before.
pub record OwnWritten (node : ℕ) (device : Registers) (offset value : ℕ) (from : Seen)
    (lines : List TraceLine) (old new : Fabric) (answer : Bool) : Type 0 where
  pub exact : IsTrue answer ↔ IsSome (written_at device offset value)
  pub stands : Stands (seen_with node device offset value (seen from lines)) [] new
  pub asks : (host : ℕ) → CanAsk host from lines old
      → CanAsk host (seen_with node device offset value (seen from lines)) [] new

-- the fabric stands for some lines, and the node is one of its devices
pub record HasDevice (fabric : Fabric) (node : ℕ) : Type 0 where
  pub from : Seen
  pub lines : List TraceLine
  pub stands : Stands from lines fabric
  pub device : Registers
  pub is : slice_get (seen from lines).network.registers node ≡ Some device

-- what is known, with a device that shows from now on what standard hosts look for
abbrev pub with_standard : ℕ → Seen → Seen
with_standard node s = record s { network = with_change s.network node standard_shown }

-- what is known, if the first so many devices do
abbrev pub with_standards : ℕ → Seen → Seen
with_standards zero s = s
with_standards (suc n) s = with_standard n (with_standards n s)

-- A device shows from now on what standard hosts look for: the fabric stands from what was known,
-- with this.
abbrev pub StandardShown : ℕ → Seen → List TraceLine → Fabric → Type 0
StandardShown node from lines new = Stands (with_standard node (seen from lines)) [] new

-- every device does
abbrev pub AllStandardShown : Seen → List TraceLine → Fabric → Type 0
AllStandardShown from lines new =
    let s = seen from lines in Stands (with_standards (length s.network.registers) s) [] new
