-- What calls leave of whoever carries the accesses of a host.
use Rattle.std.specs.Prelude.{◌≡◌, ℕ, List, Result, Ok, Err}
use Rattle.fabric_map.specs.Routes.{AllRegisters}
use Rattle.host_enumerate.specs.declared.maint.Maint.{Ghosts}
use Rattle.host_enumerate.specs.declared.maint.MaintEnd.{MaintEnd}
use Rattle.host_enumerate.specs.declared.ends.EnumEnd.{EnumEnd}
use Rattle.host_enumerate.specs.declared.taking.Numbering.{Numbering}
use Rattle.host_enumerate.specs.Causes.{IsCaused}
use Rattle.host_enumerate.specs.Underway.{IsUnderway}
use Rattle.host_enumerate.specs.Ends.{IsEnded, EndsAtLock}

-- All was answered: devices and links are as they were, it can be asked, what came goes on in
-- order, and neither count rose.
pub record HasAnswered {S : Type 0} (m : Ghosts S) (old new : S) : Type 0 where
  pub topology : m.topology new ≡ m.topology old
  pub whole : m.IsWhole new
  pub follows : (origin : S) → m.Follows origin old → m.Follows origin new
  pub undetected : m.undetected new ≡ m.undetected old
  pub faults : m.faults new ≡ m.faults old

-- An access had no answer: devices and links are as they were, what came is in order up to where it
-- stopped, and the end has its cause.
pub record HasStopped {S : Type 0} (m : Ghosts S) (old new : S) (end : MaintEnd) : Type 0 where
  pub topology : m.topology new ≡ m.topology old
  pub leaves : (origin : S) → m.Follows origin old → m.Leaves origin new
  pub cause : IsCaused (m.undetected old, m.undetected new) (m.faults old, m.faults new)
      (m.IsMet new) end

-- how a call went, by its result
abbrev pub CallWent : {S A : Type 0} → Ghosts S → S → S → Result A MaintEnd → Type 0
CallWent m old new (Ok answer) = HasAnswered m old new
CallWent m old new (Err end) = HasStopped m old new end

-- the fabric is numbered so far, if it began with these registers, and this path is tried next
abbrev pub IsNumbering : {S : Type 0} → Ghosts S → S → Numbering → List ℕ → AllRegisters → Type 0
IsNumbering m now numbering path before =
    IsUnderway (m.topology now) before (m.registers now) numbering.host_id numbering.devices.items
    numbering.next_id path

-- At a lock it can be asked and what came goes on in order, and the end is the one for whichever
-- registers the walk may have begun with.
abbrev pub StopsAtLock : {S : Type 0} → Ghosts S → S → S → (AllRegisters → Type 0) → List ℕ → ℕ
    → Type 0
StopsAtLock m old new begun path id =
    m.IsWhole new × ((origin : _) → m.Follows origin old → m.Follows origin new)
    × ((before : AllRegisters) → begun before
    → EndsAtLock (m.topology old) before (m.registers new) path id)

-- A walk stopped that began with such registers: devices and links are as they were, what came is
-- in order up to where it stopped, and the end has its cause.
pub record HasWalkStopped {S : Type 0} (m : Ghosts S) (old new : S)
    (begun : AllRegisters → Type 0) (end : EnumEnd) : Type 0 where
  pub topology : m.topology new ≡ m.topology old
  pub leaves : (origin : S) → m.Follows origin old → m.Leaves origin new
  pub cause : IsEnded (m.undetected old, m.undetected new) (m.faults old, m.faults new)
      (m.IsMet new) (StopsAtLock m old new begun) end

-- how a walk went, by its result
abbrev pub WalkWent : {S A : Type 0} → Ghosts S → S → S → (AllRegisters → Type 0)
    → Result A EnumEnd → Type 0
WalkWent m old new begun (Ok found) = HasAnswered m old new
WalkWent m old new begun (Err end) = HasWalkStopped m old new begun end
