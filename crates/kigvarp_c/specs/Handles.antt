-- What C owes of a handle, and what opening and closing does.
use Rattle.std.specs.Prelude.{◌≡◌, ◌≤◌, ℕ, not, ◌==◌, List, [], ◌∷◌, length, All}
use Rattle.library_calls.specs.declared.status.CallStatus.{CallStatus}
use Rattle.library_calls.specs.declared.status.CallStatus.TheVariants.{Done, Argument, NoMemory}
use Rattle.library_calls.specs.PortsSeen.{PortSeen, new_seen}
use Rattle.library_calls.specs.FabricsSeen.{FabricSeen, FabricHolds, IsOpenedFabric}
use Rattle.kigvarp_c.specs.declared.port.KigvarpPort.{KigvarpPort}
use Rattle.kigvarp_c.specs.declared.fabric.KigvarpFabric.{KigvarpFabric}

-- it was zeroed, or came from a call of this library
abbrev pub IsPortHandle : KigvarpPort → Type 0
IsPortHandle port = length port.handle.ports ≡ port.open

-- the same, and a fabric that is not spent holds lines that were taken
pub record IsFabricHandle (fabric : KigvarpFabric) : Type 0 where
  pub count : length fabric.handle.fabrics ≡ fabric.open
  pub holds : All FabricHolds fabric.handle.fabrics

-- so many buffers are in range
abbrev pub IsBufferCount : ℕ → Type 0
IsBufferCount buffers = (4 ≤ buffers) × (buffers ≤ 30)

-- a closed handle has a new port, or stays closed, since the buffers are out of range or memory was
-- refused
abbrev pub OpensPort : ℕ → ℕ → CallStatus → List PortSeen → Type 0
OpensPort buffers tells Done after = IsBufferCount buffers
    × (after ≡ new_seen (not (tells == 0)) buffers ∷ [])
OpensPort buffers tells Argument after = (IsBufferCount buffers → ⊥) × (after ≡ [])
OpensPort buffers tells NoMemory after = IsBufferCount buffers × (after ≡ [])
OpensPort buffers tells _ after = ⊥

-- a closed handle has a new fabric, or stays closed, since memory was refused
abbrev pub OpensFabric : CallStatus → List FabricSeen → Type 0
OpensFabric Done after = (fabric : FabricSeen) × (after ≡ fabric ∷ []) × IsOpenedFabric fabric
OpensFabric NoMemory after = after ≡ []
OpensFabric _ after = ⊥
