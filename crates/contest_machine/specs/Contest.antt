-- What stands after each turn of two walkers.
use Rattle.std.specs.Prelude.{◌≡◌, ◌≢◌, ℕ, ◌<◌, ◌⊎◌, List, [], ◌∷◌, Contains, Some}
use Rattle.fabric_map.specs.Topology.{Topology, node_at}
use Rattle.fabric_map.specs.Routes.{AllRegisters}
use Rattle.fabric_map.specs.Numbered.{paths_of}
use Rattle.contest_machine.specs.declared.stages.PendingWrite.{PendingWrite}
use Rattle.contest_machine.specs.declared.stages.Tried.{Tried}
use Rattle.contest_machine.specs.declared.stages.Stage.{Stage}
use Rattle.contest_machine.specs.declared.stages.Stage.TheVariants.{Ask, Claim, Check, Test, Features, Information, Status, Free, Done, Lost}
use Rattle.contest_machine.specs.Machine.{Walker, kept}

-- a walker keeps a device
abbrev pub Keeps : Walker → ℕ → Type 0
Keeps w node = (path : List ℕ) × Contains (kept w) path × (node_at w.view path ≡ Some node)

-- the device on the walker's path
abbrev pub IsAtPath : Walker → ℕ → Type 0
IsAtPath w node = node_at w.view w.path ≡ Some node

-- the last of these writes gives the device a tag, or it has one
abbrev pub TagComes : List ℕ → List PendingWrite → ℕ → Type 0
TagComes path [] tag = tag ≢ 0
TagComes path (p ∷ []) tag = (p.path ≡ path) × (p.offset ≡ 0x6c) × (p.value ≢ 0)
TagComes path (p ∷ q ∷ rest) tag = TagComes path (q ∷ rest) tag

-- what a walker knows of the device on its path between two accesses
abbrev pub Knows : Walker → AllRegisters → Stage → Type 0
Knows w now Ask = Unit {0}
Knows w now Claim = (w.todo ≡ []) × ((node : ℕ) → IsAtPath w node → (now node).lock ≢ w.id)
Knows w now Check = (w.todo ≡ []) × ((node : ℕ) → IsAtPath w node → ¬ Keeps w node)
Knows w now Test = (w.todo ≡ []) × ((node : ℕ) → IsAtPath w node → (now node).lock ≡ w.id)
Knows w now Features = (node : ℕ) → IsAtPath w node → TagComes w.path w.todo (now node).tag
Knows w now Information =
    (w.todo ≡ []) × ((node : ℕ) → IsAtPath w node → (now node).tag ≢ 0)
Knows w now Status = Unit {0}
Knows w now Free = w.devices ≢ []
Knows w now Done = Unit {0}
Knows w now Lost = Unit {0}

-- a write that is still to be made is to a device that is kept, and not to its lock; no tag is
-- made 0
abbrev pub IsOwnWrite : List (List ℕ) → PendingWrite → Type 0
IsOwnWrite paths p =
    Contains paths p.path × (p.offset ≢ 0x68) × (p.offset ≡ 0x6c → p.value ≢ 0)

abbrev pub AreOwnWrites : List (List ℕ) → List PendingWrite → Type 0
AreOwnWrites paths [] = Unit {0}
AreOwnWrites paths (p ∷ rest) = IsOwnWrite paths p × AreOwnWrites paths rest

-- the switches whose ports are tried were taken in
abbrev pub AreListed : List (List ℕ) → List Tried → Type 0
AreListed paths [] = Unit {0}
AreListed paths (top ∷ rest) = Contains paths top.path × AreListed paths rest

-- each of these paths leads to a device of its own
abbrev pub AreOnce : Topology → List (List ℕ) → Type 0
AreOnce view [] = Unit {0}
AreOnce view (path ∷ rest) =
    ((other : List ℕ) → Contains rest other → node_at view path ≢ node_at view other)
    × AreOnce view rest

-- what a walker keeps bears its ID, and what was taken in has a tag
pub record IsMine (w : Walker) (now : AllRegisters) : Type 0 where
  pub locks : (node : ℕ) → Keeps w node → (now node).lock ≡ w.id
  pub tags : (path : List ℕ) (node : ℕ) → Contains (paths_of w.devices) path
      → node_at w.view path ≡ Some node → (now node).tag ≢ 0
  pub once : AreOnce w.view (kept w)
  pub own : AreOwnWrites (kept w) w.todo
  pub tried : AreListed (paths_of w.devices) w.tried
  pub knows : Knows w now w.stage

-- the last turn of the walker wrote its ID to the lock of this device
abbrev pub HasClaimed : Walker → AllRegisters → ℕ → Type 0
HasClaimed w now node = (w.stage ≡ Check) × IsAtPath w node × ((now node).lock ≡ w.id)

-- the lock of a device that nobody keeps: free, as it first was, or just claimed
abbrev pub IsLockOfNone : Walker → Walker → AllRegisters → AllRegisters → ℕ → Type 0
IsLockOfNone w o before now node =
    ((now node).lock ≡ 0xffff) ⊎ ((now node).lock ≡ (before node).lock)
    ⊎ HasClaimed w now node ⊎ HasClaimed o now node

-- a device that nobody keeps and that bears the ID of a walker, which did not just claim it, is
-- wholly as it first was
abbrev pub IsStale : Walker → AllRegisters → AllRegisters → ℕ → Type 0
IsStale w before now node =
    (now node).lock ≡ w.id → ¬ HasClaimed w now node → now node ≡ before node

pub record IsContest (w o : Walker) (before now : AllRegisters) : Type 0 where
  pub differ : w.id ≢ o.id
  pub first_id : w.id < 0xff
  pub second_id : o.id < 0xff
  pub first : IsMine w now
  pub second : IsMine o now
  pub others : (node : ℕ) → ¬ Keeps w node → ¬ Keeps o node → IsLockOfNone w o before now node
  pub stale_first : (node : ℕ) → ¬ Keeps w node → ¬ Keeps o node → IsStale w before now node
  pub stale_second : (node : ℕ) → ¬ Keeps w node → ¬ Keeps o node → IsStale o before now node
