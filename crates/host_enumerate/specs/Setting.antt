-- What a host leaves of the devices that it sets up.
use Rattle.std.specs.Prelude.{◌≡◌, ◌≢◌, ℕ, ◌<◌, ◌≤◌, List, [], ◌∷◌, ◌++◌, length, slice_set, Some}
use Rattle.fabric_script.specs.declared.ports.PortRef.{PortRef}
use Rattle.maint_registers.specs.Devices.{Registers}
use Rattle.maint_registers.specs.Routes.{entry_of}
use Rattle.fabric_map.specs.Topology.{Topology, entered}
use Rattle.fabric_map.specs.Routes.{AllRegisters}
use Rattle.host_enumerate.specs.Asking.{Becomes}

-- the entry of one destination is set, and this destination stays selected
abbrev pub with_entry : Registers → ℕ → ℕ → Registers
with_entry device id port =
    record device { select = id; routes = slice_set device.routes id port }

-- the path goes through this device, and on by this port, once it has passed a front
abbrev pub PathPasses : Topology → List ℕ → List ℕ → ℕ → ℕ → Type 0
PathPasses topology front rest node port = (mid later : List ℕ) × (at : PortRef)
    × (rest ≡ mid ++ port ∷ later) × (entered topology (front ++ mid) ≡ Some at)
    × (at.node ≡ node)

-- In each switch from the front of a path on, the entry of an ID is the path's port. All other
-- devices are the same.
pub record AreRouted (topology : Topology) (old new : AllRegisters) (front rest : List ℕ)
    (id : ℕ) : Type 0 where
  pub passed : (node port : ℕ) → PathPasses topology front rest node port
      → new node ≡ with_entry (old node) id port
  pub others : (node : ℕ) → ((port : ℕ) → ¬ PathPasses topology front rest node port)
      → new node ≡ old node

-- An endpoint has an ID, and each switch that its path passes sends packets for the ID along the
-- path. All other devices are the same.
abbrev pub HasNewId : Topology → AllRegisters → AllRegisters → List ℕ → ℕ → ℕ → Type 0
HasNewId topology old new path node id = (first : ℕ) (rest : List ℕ) → path ≡ first ∷ rest
    → (mid : AllRegisters) × Becomes old mid node (record (old node) { base_id = id })
    × AreRouted topology mid new (first ∷ []) rest id

-- only the route table, its default port and the selected destination may differ
pub record IsSameBut (old new : Registers) : Type 0 where
  pub rest : new ≡ record old {
    routes = new.routes;
    default_port = new.default_port;
    select = new.select;
  }

-- A switch sends packets for every ID from 0 to 62, and for the host's, by the port by which it was
-- entered. It has no entry of its own for the former.
pub record SwitchIsSetUp (host_id entry : ℕ) (old new : Registers) : Type 0 where
  pub same : IsSameBut old new
  pub default : new.default_port ≡ entry
  pub home : entry_of new host_id ≡ entry
  pub cleared : (id : ℕ) → id < 63 → id ≢ host_id → entry_of new id ≡ 255
  pub kept : (id : ℕ) → 62 < id → id ≢ host_id
      → entry_of new id ≡ entry_of old id

-- A switch has no entries of its own for the IDs below a number, other than the host's.
pub record IsCleared (host_id below : ℕ) (old new : Registers) : Type 0 where
  pub same : IsSameBut old new
  pub default : new.default_port ≡ old.default_port
  pub destinations : length new.routes ≡ length old.routes
  pub cleared : (id : ℕ) → id < below → id ≢ host_id → entry_of new id ≡ 255
  pub kept : (id : ℕ) → below ≤ id → entry_of new id ≡ entry_of old id
