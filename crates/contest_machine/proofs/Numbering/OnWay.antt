-- How far a walker has come, said of the registers as its writes that are left will make them.
use Rattle.contest_machine.proofs.Prelude.{◌≡◌, ℕ, ◌+◌, ◌⊎◌, List, [], ◌∷◌, length, Contains, Option, Some, None, inl, inr, PortRef, Registers, Device, Topology, entered, node_at, onward, after_all_paths, AllRegisters, IsForeign, Write, after_access, IsTakable, IsUnmet, IsUnderway, PendingWrite, Tried, Stage, Ask, Claim, Check, Test, Features, Information, Status, Free, Done, Lost, Walker, IsAtPath}

-- what may be taken belongs to no other
pub not_foreign : (id : ℕ) (device : Registers) → IsTakable id device
    → ¬ IsForeign id device.lock
not_foreign id device (inl free) foreign = foreign.0 free
not_foreign id device (inr own) foreign = foreign.1 own.0

-- the registers after one write to the device that a path enters
abbrev pub one_performed : AllRegisters → PendingWrite → Option PortRef → AllRegisters
one_performed now p None = now
one_performed now p (Some at) = after_access now at (Write p.offset p.value)

-- and after all
abbrev pub performed : Topology → AllRegisters → List PendingWrite → AllRegisters
performed view now [] = now
performed view now (p ∷ rest) = performed view (one_performed now p (entered view p.path)) rest

-- the port that is tried of the switch whose ports are tried last
abbrev pub port_tried : List Tried → List ℕ
port_tried [] = after_all_paths
port_tried (top ∷ rest) = onward top.path top.port

-- the path before which everything is met
abbrev pub bound_at : Walker → Stage → List ℕ
bound_at w Ask = w.path
bound_at w Claim = w.path
bound_at w Check = w.path
bound_at w Test = w.path
bound_at w Features = w.path
bound_at w Information = w.path
bound_at w Status = port_tried w.tried
bound_at w Free = []
bound_at w Done = after_all_paths
bound_at w Lost = []

-- the device that a walker has claimed, or keeps without having it in its list
abbrev pub IsApart : Walker → Stage → ℕ → Type 0
IsApart w Ask node = ⊥
IsApart w Claim node = ⊥
IsApart w Check node = IsAtPath w node
IsApart w Test node = ⊥
IsApart w Features node = IsAtPath w node
IsApart w Information node = IsAtPath w node
IsApart w Status node = ⊥
IsApart w Free node = ⊥
IsApart w Done node = ⊥
IsApart w Lost node = ⊥

-- a device that is kept, as it was before, with the marks of its host
abbrev pub taken_as : List ℕ → ℕ → ℕ → Registers → Registers
taken_as [] id tag device = record device { base_id = id; lock = id; tag = tag }
taken_as (port ∷ path) id tag device = record device { lock = id; tag = tag }

abbrev pub IsTakenAs : Walker → AllRegisters → AllRegisters → Type 0
IsTakenAs w before now = (node : ℕ) → IsAtPath w node
    → IsTakable w.id (before node)
    × (performed w.view now w.todo node
    ≡ taken_as w.path w.id (length w.devices + 1) (before node))

-- A device that was claimed is as it was before, if the claim was won, but for its lock; and one
-- that is kept but not in the list, but for the marks of its host.
abbrev pub IsFresh : Walker → AllRegisters → AllRegisters → Stage → Type 0
IsFresh w before now Ask = Unit {0}
IsFresh w before now Claim = Unit {0}
IsFresh w before now Check = (node : ℕ) → IsAtPath w node → (now node).lock ≡ w.id
    → IsTakable w.id (before node) × (now node ≡ record (before node) { lock = w.id })
IsFresh w before now Test = Unit {0}
IsFresh w before now Features = IsTakenAs w before now
IsFresh w before now Information = IsTakenAs w before now
IsFresh w before now Status = Unit {0}
IsFresh w before now Free = Unit {0}
IsFresh w before now Done = Unit {0}
IsFresh w before now Lost = Unit {0}

-- a device of the list is this one
abbrev pub IsListed : Topology → List Device → ℕ → Type 0
IsListed topology devices node =
    (device : Device) × Contains devices device × (node_at topology device.path ≡ Some node)

-- A walker has come so far. `before` are the registers of what it took in, as they were when it
-- did, and of all else as they are. `seen` are those that its writes will make, but for the device
-- that it is about to take in.
pub record IsOnWay (w : Walker) (now : AllRegisters) : Type 0 where
  pub before : AllRegisters
  pub seen : AllRegisters
  pub underway : IsUnderway w.view before seen w.id w.devices w.next (bound_at w w.stage)
  pub seen_is : (node : ℕ) → ¬ IsApart w w.stage node
      → seen node ≡ performed w.view now w.todo node
  pub new : (node : ℕ) → IsApart w w.stage node → IsUnmet w.view w.devices node
  pub hosted : IsListed w.view w.devices w.view.host ⊎ IsApart w w.stage w.view.host
  pub fresh : IsFresh w before now w.stage
