-- What holds after each turn of two walkers.
use Rattle.std.specs.Prelude.{◌≡◌, ◌≢◌, ℕ, ◌<◌, ◌≤◌, ◌⊎◌, List, [], length}
use Rattle.maint_registers.specs.Devices.{Registers}
use Rattle.fabric_map.specs.Routes.{AllRegisters}
use Rattle.link_watch.specs.declared.side.Side.{Side}
use Rattle.contest_machine.specs.declared.stages.Stage.{Stage}
use Rattle.contest_machine.specs.declared.stages.Stage.TheVariants.{Ask, Claim, Check, Test, Features, Information, Status, Free, Done, Lost}
use Rattle.contest_machine.specs.Machine.{Walker, kept, stepped}
use Rattle.contest_machine.specs.Turns.{Both, after_turns}
use Rattle.contest_machine.specs.Contest.{Keeps, AreOnce, IsLockOfNone}
use Rattle.contest_machine.specs.Within.{WalkerIsWithin}
use Rattle.contest_machine.specs.Locks.{walker_of}

-- a walker at its start
pub record IsNew (w : Walker) : Type 0 where
  pub devices : w.devices ≡ []
  pub tried : w.tried ≡ []
  pub todo : w.todo ≡ []
  pub path : w.path ≡ []
  pub stage : w.stage ≡ Ask

-- No device is kept by both. What is kept bears the ID of its host. The lock of any other is free,
-- as it first was, or was written by the last turn of a host.
pub record KeepsApart (before : AllRegisters) (both : Both) : Type 0 where
  pub apart : (node : ℕ) → Keeps both.first node → ¬ Keeps both.second node
  pub first : (node : ℕ) → Keeps both.first node
      → (both.registers node).lock ≡ both.first.id
  pub second : (node : ℕ) → Keeps both.second node
      → (both.registers node).lock ≡ both.second.id
  pub others : (node : ℕ) → ¬ Keeps both.first node → ¬ Keeps both.second node
      → IsLockOfNone both.first both.second before both.registers node

abbrev pub TurnsKeepApart : Type 0
TurnsKeepApart = (both : Both) (turns : List Side)
    → IsNew both.first → IsNew both.second
    → both.first.id ≢ both.second.id → both.first.id < 0xff → both.second.id < 0xff
    → KeepsApart both.registers (after_turns both turns)

-- What an access of a walker changes of a device: nothing; or other registers than the lock, of one
-- that it keeps; or the lock alone, from FFFF to its ID, or of one that it keeps back to FFFF.
abbrev pub IsOwnChange : Walker → ℕ → Registers → Registers → Type 0
IsOwnChange w node old new =
    (new ≡ old)
    ⊎ (Keeps w node × (new.lock ≡ old.lock))
    ⊎ ((old.lock ≡ 0xffff) × (new ≡ record old { lock = w.id }))
    ⊎ (Keeps w node × (new ≡ record old { lock = 0xffff }))

-- Whatever the turns were, so does the next access of either walker.
abbrev pub AccessesChangeTheirOwn : Type 0
AccessesChangeTheirOwn = (both : Both) (turns : List Side) (side : Side) (node : ℕ)
    → IsNew both.first → IsNew both.second
    → both.first.id ≢ both.second.id → both.first.id < 0xff → both.second.id < 0xff
    → IsOwnChange (walker_of (after_turns both turns) side) node
    ((after_turns both turns).registers node)
    ((stepped (walker_of (after_turns both turns) side)
    (after_turns both turns).registers).registers node)

-- No turn changes how a walker sees the fabric, or its ID.
abbrev pub WalkersStay : Type 0
WalkersStay = (both : Both) (turns : List Side) (side : Side)
    → ((walker_of (after_turns both turns) side).view ≡ (walker_of both side).view)
    × ((walker_of (after_turns both turns) side).id ≡ (walker_of both side).id)

-- it does not give up what it keeps
abbrev pub HoldsOn : Stage → Type 0
HoldsOn Ask = Unit {0}
HoldsOn Claim = Unit {0}
HoldsOn Check = Unit {0}
HoldsOn Test = Unit {0}
HoldsOn Features = Unit {0}
HoldsOn Information = Unit {0}
HoldsOn Status = Unit {0}
HoldsOn Free = ⊥
HoldsOn Done = Unit {0}
HoldsOn Lost = ⊥

-- The walker with the greater ID is never lost, if nothing is locked at first.
abbrev pub GreaterHoldsOn : Type 0
GreaterHoldsOn = (both : Both) (turns : List Side)
    → IsNew both.first → IsNew both.second
    → both.second.id < both.first.id → both.first.id < 0xff
    → ((node : ℕ) → (both.registers node).lock ≡ 0xffff)
    → HoldsOn (after_turns both turns).first.stage

-- An access leaves a walker within its bounds.
abbrev pub StaysWithin : Type 0
StaysWithin =
    (w : Walker) (old : AllRegisters) → WalkerIsWithin w → WalkerIsWithin (stepped w old).walker

-- No more devices are kept than there are.
abbrev pub KeepsFew : Type 0
KeepsFew =
    (w : Walker) → WalkerIsWithin w → AreOnce w.view (kept w) → length (kept w) ≤ w.view.nodes
