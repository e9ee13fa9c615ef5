-- When a host can ask the device on a path, and what its accesses leave.
use Rattle.std.specs.Prelude.{◌≡◌, ◌≢◌, ℕ, ◌≤◌, List, [], ◌∷◌, ◌++◌, length, Some}
use Rattle.fabric_script.specs.declared.ports.PortRef.{PortRef}
use Rattle.maint_registers.specs.Devices.{Registers}
use Rattle.maint_registers.specs.Access.{written_at}
use Rattle.fabric_map.specs.Topology.{Topology, entered}
use Rattle.fabric_map.specs.Routes.{AllRegisters}
use Rattle.fabric_map.specs.Ways.{IsOpened}
use Rattle.host_enumerate.specs.declared.maint.Access.{Access}
use Rattle.host_enumerate.specs.Accesses.{registers_with, after_access}

-- A host with this ID can ask the device that a path enters by this port. The switches that the
-- path passes are open for it. It leads to the host only if it is the host's own.
pub record IsAskable (topology : Topology) (registers : AllRegisters) (host_id : ℕ) (path : List ℕ)
    (at : PortRef) : Type 0 where
  pub id : (registers topology.host).base_id ≡ host_id
  pub opened : IsOpened topology registers host_id path
  pub leads : entered topology path ≡ Some at
  pub not_host : at.node ≡ topology.host → path ≡ []
  pub short : length path ≤ 64

-- The switches that the path passes are open for the answer, too.
abbrev pub IsOpenAfter : Topology → AllRegisters → ℕ → List ℕ → PortRef → Access → Type 0
IsOpenAfter topology registers host_id path at access =
    IsOpened topology (after_access registers at access) host_id path

-- No switch that the path passes is this device.
abbrev pub IsApart : Topology → List ℕ → ℕ → Type 0
IsApart topology path node = (first : ℕ) (front rest : List ℕ) (port : ℕ) (at : PortRef)
    → path ≡ first ∷ front ++ port ∷ rest → entered topology (first ∷ front) ≡ Some at
    → at.node ≢ node

-- No switch that the path passes is passed twice.
abbrev pub PassesOnce : Topology → List ℕ → Type 0
PassesOnce topology path = (first : ℕ) (front rest : List ℕ) (port : ℕ) (at : PortRef)
    → path ≡ first ∷ front ++ port ∷ rest → entered topology (first ∷ front) ≡ Some at
    → IsApart topology (first ∷ front) at.node

-- all registers are the same
abbrev pub AreSame : AllRegisters → AllRegisters → Type 0
AreSame old new = (node : ℕ) → new node ≡ old node

-- only the registers of one device may differ, which are these
abbrev pub Becomes : AllRegisters → AllRegisters → ℕ → Registers → Type 0
Becomes old new node held = (other : ℕ) → new other ≡ registers_with old node held other

-- The device can be written so without closing the path to it, and the host keeps its ID.
pub record IsWritable (topology : Topology) (registers : AllRegisters) (path : List ℕ)
    (at : PortRef) (offset value : ℕ) (held : Registers) : Type 0 where
  pub written : written_at (registers at.node) offset value ≡ Some held
  pub apart : IsApart topology path at.node
  pub id : path ≡ [] → held.base_id ≡ (registers at.node).base_id
