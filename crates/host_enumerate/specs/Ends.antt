-- How an enumeration ends.
use Rattle.std.specs.Prelude.{◌≡◌, ◌≢◌, ℕ, List, [], ◌∷◌, Contains, Some}
use Rattle.rio_chars.specs.Faults.{Rose}
use Rattle.link_model.specs.declared.event.Event.{Event}
use Rattle.fabric_script.specs.declared.ports.PortRef.{PortRef}
use Rattle.fabric_map.specs.Topology.{Topology, node_at, IsReached}
use Rattle.fabric_map.specs.Routes.{AllRegisters}
use Rattle.fabric_map.specs.Locked.{IsForeign, IsFirstLocked}
use Rattle.fabric_map.specs.Numbered.{ChangesOnly}
use Rattle.host_enumerate.specs.Causes.{CountStays}
use Rattle.host_enumerate.specs.declared.maint.MaintEnd.{MaintEnd}
use Rattle.host_enumerate.specs.declared.maint.MaintEnd.TheVariants as maint
use Rattle.host_enumerate.specs.declared.ends.EnumEnd.{EnumEnd}
use Rattle.host_enumerate.specs.declared.ends.EnumEnd.TheVariants.{LockedBy, Undetected, WriteFault, NoMemory}

-- why a walk ends, if an access has no answer
abbrev pub walk_end_of : MaintEnd → EnumEnd
walk_end_of (maint.Undetected port event) = Undetected port event
walk_end_of maint.WriteFault = WriteFault
walk_end_of maint.NoMemory = NoMemory

-- The walk ends at the first device with the lock of another host, which is on this path and has
-- this lock. Devices that were met before keep the host's lock, and all others, the locked one
-- among
-- them, are as before. `before` and `after` are the registers of all devices.
pub record EndsAtLock (topology : Topology) (before after : AllRegisters) (path : List ℕ)
    (id : ℕ) : Type 0 where
  pub first : IsFirstLocked topology before path id
  pub kept : (met : List ℕ) (node : ℕ) → Contains first.paths met
      → node_at topology met ≡ Some node
      → (after node).lock ≡ (before topology.host).base_id
  pub unmet_stay : (node : ℕ)
      → ((met : List ℕ) → Contains first.paths met → node_at topology met ≢ Some node)
      → after node ≡ before node
  pub outside : (node : ℕ) → ¬ IsReached topology node → after node ≡ before node
  pub inside : (node : ℕ) → IsReached topology node
      → ChangesOnly ((before topology.host).base_id ∷ []) (before node) (after node)

-- no device that is reached has the lock of another host
abbrev pub IsLockFree : Topology → AllRegisters → Type 0
IsLockFree topology registers = (node : ℕ) → IsReached topology node
    → ¬ IsForeign (registers topology.host).base_id (registers node).lock

-- An undetected event comes only if it was met and its count rose, a failed write only if its count
-- rose, and a lock only as said. Want of memory may come at any time. No other count changes.
abbrev pub IsEnded : ℕ × ℕ → ℕ × ℕ → (PortRef → Event → Type 0) → (List ℕ → ℕ → Type 0)
    → EnumEnd → Type 0
IsEnded undetected faults met at_lock (LockedBy path id) =
    at_lock path id × CountStays undetected × CountStays faults
IsEnded undetected faults met at_lock (Undetected port event) =
    met port event × Rose undetected.0 undetected.1 × CountStays faults
IsEnded undetected faults met at_lock WriteFault = Rose faults.0 faults.1 × CountStays undetected
IsEnded undetected faults met at_lock NoMemory = CountStays undetected × CountStays faults
