-- Calls one after another, and the stop of a walk that began with an earlier one.
use Rattle.host_enumerate.proofs.Prelude.{◌≡◌, Result, Ok, Err, IfErr, refl, sym, subst, ◌∙◌, Topology, AllRegisters, Ghosts, walk_end_of, IsEnded, EndsAtLock, HasAnswered, StopsAtLock, HasWalkStopped, WalkWent}
use Rattle.std.specs.Result.{IsErrAnd}
use Rattle.rio_chars.specs.Faults.{Rose}
use Rattle.fabric_map.specs.declared.map.Map.{Map}
use Rattle.host_enumerate.specs.declared.maint.MaintEnd.{MaintEnd}
use Rattle.host_enumerate.specs.declared.maint.MaintEnd.TheVariants as maint
use Rattle.host_enumerate.specs.declared.ends.EnumEnd.{EnumEnd}
use Rattle.host_enumerate.specs.declared.ends.EnumEnd.TheVariants.{LockedBy, Undetected, WriteFault, NoMemory}
use Rattle.host_enumerate.specs.Enumerated.{IsEnumerated}

-- no call
pub answered_none : {S : Type 0} (m : Ghosts S) (now : S) → m.IsWhole now → HasAnswered m now now
answered_none m now whole = record {
  topology = refl;
  whole = whole;
  follows = λ origin is. is;
  undetected = refl;
  faults = refl;
}

-- a call after others
pub answered_on : {S : Type 0} {m : Ghosts S} {old mid new : S} → HasAnswered m old mid
    → HasAnswered m mid new → HasAnswered m old new
answered_on first last = record {
  topology = last.topology ∙ first.topology;
  whole = last.whole;
  follows = λ origin is. last.follows origin (first.follows origin is);
  undetected = last.undetected ∙ first.undetected;
  faults = last.faults ∙ first.faults;
}

-- what a `?` hands on
pub handed_on : {X E : Type 0} (P : Result X E → Type 0) (r : Result X E) (end : E)
    → IsErrAnd r (λ y. y ≡ end) → P (Err end) → P r
handed_on P (Ok x) end gives holds = absurd gives
handed_on P (Err y) end gives holds = subst (λ e. P (Err e)) (sym gives) holds

-- an access without an answer ends no enumeration at a lock
pub enumerated_none : (topology : Topology) (before after : AllRegisters)
    (r : Result Map EnumEnd) (end : MaintEnd) → IsErrAnd r (λ y. y ≡ walk_end_of end)
    → IsEnumerated topology before after r
enumerated_none topology before after r (maint.Undetected port event) gives =
    handed_on (IsEnumerated topology before after) r (Undetected port event) gives tt
enumerated_none topology before after r maint.WriteFault gives =
    handed_on (IsEnumerated topology before after) r WriteFault gives tt
enumerated_none topology before after r maint.NoMemory gives =
    handed_on (IsEnumerated topology before after) r NoMemory gives tt

-- how an enumeration ended
abbrev HasEndedFrom : {S : Type 0} → Ghosts S → S → S → EnumEnd → Type 0
HasEndedFrom m old new =
    IsEnded (m.undetected old, m.undetected new) (m.faults old, m.faults new) (m.IsMet new)
    (λ path id. m.IsWhole new × ((origin : _) → m.Follows origin old → m.Follows origin new))

-- The call that stopped came after others.
module _ {S : Type 0} {m : Ghosts S} {old mid new : S} (first : HasAnswered m old mid) where
  -- a walk within a walk
  pub walk_stopped_on : (begun later : AllRegisters → Type 0)
      → ((before : AllRegisters) → begun before → later before) → (end : EnumEnd)
      → HasWalkStopped m mid new later end → HasWalkStopped m old new begun end
  walk_stopped_on begun later on end last = record {
    topology = last.topology ∙ first.topology;
    leaves = λ origin is. last.leaves origin (first.follows origin is);
    cause = go end last.cause;
  }
    where
      go : (end : EnumEnd)
          → IsEnded (m.undetected mid, m.undetected new) (m.faults mid, m.faults new)
          (m.IsMet new) (StopsAtLock m mid new later) end
          → IsEnded (m.undetected old, m.undetected new) (m.faults old, m.faults new)
          (m.IsMet new) (StopsAtLock m old new begun) end
      go (LockedBy path id) cause = (
        (
          cause.0.0,
          (λ origin is. cause.0.1 origin (first.follows origin is)),
          λ before has. subst (λ t. EndsAtLock t before (m.registers new) path id)
              first.topology (cause.0.2 before (on before has)),
        ),
        cause.1 ∙ first.undetected,
        cause.2 ∙ first.faults,
      )
      go (Undetected port event) cause = (
        cause.0,
        subst (λ n. Rose n (m.undetected new)) first.undetected cause.1,
        cause.2 ∙ first.faults,
      )
      go WriteFault cause =
          (subst (λ n. Rose n (m.faults new)) first.faults cause.0, cause.1 ∙ first.undetected)
      go NoMemory cause = (cause.0 ∙ first.undetected, cause.1 ∙ first.faults)

  pub walk_handed_on : {X : Type 0} (begun : AllRegisters → Type 0)
      {later : AllRegisters → Type 0} (r : Result X EnumEnd) {end : EnumEnd}
      → IsErrAnd r (λ y. y ≡ end)
      → ((before : AllRegisters) → begun before → later before)
      → HasWalkStopped m mid new later end → WalkWent m old new begun r
  walk_handed_on begun {later} r {end} gives on last =
      handed_on (WalkWent m old new begun) r end gives (walk_stopped_on begun later on end last)

  pub end_of_walk : {X : Type 0} {begun : AllRegisters → Type 0} (r : Result X EnumEnd)
      {end : EnumEnd} → IsErrAnd r (λ y. y ≡ end) → HasWalkStopped m mid new begun end
      → IfErr r (HasEndedFrom m old new)
  end_of_walk {begun = begun} r {end = end} gives last =
      handed_on (λ r. IfErr r (HasEndedFrom m old new)) r end gives
      (go end (walk_stopped_on begun begun (λ before is. is) end last).cause)
    where
      go : (end : EnumEnd)
          → IsEnded (m.undetected old, m.undetected new) (m.faults old, m.faults new)
          (m.IsMet new) (StopsAtLock m old new begun) end
          → HasEndedFrom m old new end
      go (LockedBy path id) cause = ((cause.0.0, cause.0.1), cause.1, cause.2)
      go (Undetected port event) cause = cause
      go WriteFault cause = cause
      go NoMemory cause = cause

  -- the registers with which a walk began are those of its first call
  pub enumerated_so : {begun : AllRegisters → Type 0} (r : Result Map EnumEnd) {end : EnumEnd}
      → IsErrAnd r (λ y. y ≡ end) → begun (m.registers old) → HasWalkStopped m mid new begun end
      → IsEnumerated (m.topology old) (m.registers old) (m.registers new) r
  enumerated_so {begun = begun} r {end = end} gives has last =
      handed_on (IsEnumerated (m.topology old) (m.registers old) (m.registers new)) r end gives
      (go end (walk_stopped_on begun begun (λ before is. is) end last).cause)
    where
      go : (end : EnumEnd)
          → IsEnded (m.undetected old, m.undetected new) (m.faults old, m.faults new)
          (m.IsMet new) (StopsAtLock m old new begun) end
          → IsEnumerated (m.topology old) (m.registers old) (m.registers new) (Err end)
      go (LockedBy path id) cause = cause.0.2 (m.registers old) has
      go (Undetected port event) cause = tt
      go WriteFault cause = tt
      go NoMemory cause = tt
