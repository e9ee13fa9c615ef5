-- A host that walks through a fabric in which nobody else makes an access.
use Rattle.std.specs.Prelude.{◌≡◌, ℕ, zero, suc, ◌<◌, ◌≤◌, true, Contains, Ok, Err}
use Rattle.fabric_script.specs.declared.ports.PortRef.{PortRef}
use Rattle.fabric_map.specs.Topology.{IsTopology}
use Rattle.fabric_map.specs.Fitting.{Fits}
use Rattle.fabric_map.specs.Locked.{IsForeign}
use Rattle.fabric_map.specs.Numbered.{entries_of}
use Rattle.fabric_map.specs.declared.map.Map.{Map}
use Rattle.host_enumerate.specs.Underway.{AreUntagged}
use Rattle.host_enumerate.specs.Enumerated.{IsEnumerated}
use Rattle.host_enumerate.specs.declared.ends.EnumEnd.TheVariants.{LockedBy}
use Rattle.contest_machine.specs.declared.stages.Asked.{Asked}
use Rattle.contest_machine.specs.Machine.{State, stepped}
use Rattle.contest_machine.specs.Keeping.{IsNew}
use Rattle.contest_machine.specs.Locks.{lock_next}
use Rattle.contest_machine.specs.Going.{HasNumbered}
use Rattle.contest_machine.specs.Asking.{WantsBehind, IsCarried}

-- one access more
abbrev pub one_access_on : State → State
one_access_on state = stepped state.walker state.registers

-- and so many
abbrev pub accesses_on : State → ℕ → State
accesses_on state zero = state
accesses_on state (suc n) = one_access_on (accesses_on state n)

-- A host at its start. It has its own ID, and no device has a tag. The registers show the devices
-- and links of the fabric as it sees it.
pub record BeginsAlone (state : State) : Type 0 where
  pub new : IsNew state.walker
  pub begun : state.walker.begun ≡ true
  pub next : state.walker.next ≡ 0
  pub id : (state.registers state.walker.view.host).base_id ≡ state.walker.id
  pub small : state.walker.id < 0xff
  pub proper : IsTopology state.walker.view
  pub shown : Fits state.walker.view state.registers
  pub untagged : AreUntagged state.walker.view state.registers

-- this map has the devices that the walker took in, and their entries
pub record IsMapOfWalker (state : State) (map : Map) : Type 0 where
  pub devices : map.devices.items ≡ state.walker.devices
  pub entries : map.entries.items ≡ entries_of state.walker.devices

-- A host that is done has numbered the fabric from the first registers on, as `enumerate` does, and
-- no device that is reached had the lock of another host.
abbrev pub AloneNumbers : Type 0
AloneNumbers = (state : State) (n : ℕ) (map : Map) → BeginsAlone state
    → HasNumbered (accesses_on state n).walker → IsMapOfWalker (accesses_on state n) map
    → IsEnumerated state.walker.view state.registers (accesses_on state n).registers (Ok map)

-- ---- the lock of another host

-- the next access reads this lock, which is that of another host
abbrev pub MeetsLock : State → ℕ → Type 0
MeetsLock state lock = Contains (lock_next state) lock × IsForeign state.walker.id lock

-- Such a lock is that of the device on the walker's path, and the first that a walk meets. The
-- registers are those that `enumerate` leaves, which ends there.
abbrev pub AloneMeetsLocks : Type 0
AloneMeetsLocks = (state : State) (n lock : ℕ) → BeginsAlone state
    → MeetsLock (accesses_on state n) lock
    → IsEnumerated state.walker.view state.registers (accesses_on state n).registers
    (Err (LockedBy (accesses_on state n).walker.path lock))

-- ---- how many accesses it makes

-- before each of so many accesses the host is not done, and none reads such a lock
abbrev pub WalksFor : State → ℕ → Type 0
WalksFor state most = (n : ℕ) → n < most
    → (¬ HasNumbered (accesses_on state n).walker)
    × ((lock : ℕ) → ¬ MeetsLock (accesses_on state n) lock)

-- So it ends after 40,001 accesses, at the latest.
abbrev pub AloneEnds : Type 0
AloneEnds = (state : State) (most : ℕ) → BeginsAlone state → WalksFor state most → most ≤ 40001

-- ---- what packets carry

-- Each access behind the host is carried.
abbrev pub AloneIsCarried : Type 0
AloneIsCarried = (state : State) (n : ℕ) (ask : Asked) (at : PortRef) → BeginsAlone state
    → WantsBehind (accesses_on state n).walker ask at
    → IsCarried (accesses_on state n).walker (accesses_on state n).registers ask at
