-- A host that walks alone is one of two, of which the other makes no turn.
use Rattle.contest_machine.proofs.Prelude.{◌≡◌, ◌≢◌, ℕ, zero, suc, ◌<◌, Bool, true, false, eqb, List, [], ◌∷◌, ◌++◌, Contains, arith, inl, inr, subst, refl, ap, ◌∙◌, if◌then◌else◌, ◌⊎◌, eqb-true, eqb-false, PortRef, IsTopology, IsReached, Fits, AreOwnUntagged, Contains-cases, Contains-first, not_in_empty, Side, A, B, Asked, Walker, State, stepped, locked_on, Both, turn_of, after_turns, IsNew, walker_of, AreBegun, HasNumbered, KeepsItsMap, WantsBehind, IsCarried}
use Rattle.fabric_map.specs.Numbered.{ChangesOnly}
use Rattle.contest_machine.specs.Machine.{new_walker}
use Rattle.contest_machine.specs.Numbering.{LeavesOthers}
use Rattle.contest_machine.specs.AloneWalks.{one_access_on, accesses_on, BeginsAlone, AloneIsCarried}
use Rattle.contest_machine.proofs.Turns.Lasting.{step_lasts}
use Rattle.contest_machine.proofs.Turns.Steps.{after_one_more}
use Rattle.contest_machine.proofs.Numbering.Whole.{done_keeps_its_map}
use Rattle.contest_machine.proofs.Numbering.Together.{turns_leave_others}
use Rattle.contest_machine.proofs.Asking.AllOpen.{accesses_are_carried}

-- the ID of the other is small, and not the host's
abbrev pub other_id : ℕ → ℕ
other_id id = if eqb id 0 then 1 else 0

pub other_differs : (id : ℕ) → (id ≢ other_id id) × (other_id id < 2)
other_differs id = go (eqb id 0) refl
  where
    go : (b : Bool) → eqb id 0 ≡ b
        → (id ≢ (if b then 1 else 0)) × ((if b then 1 else 0) < 2)
    go true is = let none = eqb-true id 0 is in ((λ same. omega (arith, none, same)), omega arith)
    go false is = (eqb-false id 0 is, omega arith)

-- it sees the same fabric, and asks nothing
abbrev pub idler : State → Walker
idler state = new_walker state.walker.view (other_id state.walker.id)

abbrev pub beside : State → Walker → Both
beside state o = record { first = state.walker; second = o; registers = state.registers }

abbrev pub own_turns : ℕ → List Side
own_turns zero = []
own_turns (suc n) = own_turns n ++ A ∷ []

module _ (state : State) (begins : BeginsAlone state) where
  abbrev o : Walker
  o = idler state

  abbrev both : Both
  both = beside state o

  pub begun_on : (n : ℕ) → (accesses_on state n).walker.begun ≡ true
  begun_on zero = begins.begun
  begun_on (suc n) =
      (step_lasts (accesses_on state n).walker (accesses_on state n).registers).begun ∙ begun_on n

  pub view_on : (n : ℕ) → (accesses_on state n).walker.view ≡ state.walker.view
  view_on zero = refl
  view_on (suc n) =
      (step_lasts (accesses_on state n).walker (accesses_on state n).registers).view ∙ view_on n

  pub id_on : (n : ℕ) → (accesses_on state n).walker.id ≡ state.walker.id
  id_on zero = refl
  id_on (suc n) =
      (step_lasts (accesses_on state n).walker (accesses_on state n).registers).id ∙ id_on n

  -- a turn is one access
  turn_is : (s : State) → s.walker.begun ≡ true
      → turn_of (beside s o) A ≡ beside (one_access_on s) o
  turn_is s begun =
      ap (λ (b : Bool). beside (if b then stepped s.walker s.registers
      else locked_on (locked_on (stepped (record s.walker { begun = true }) s.registers))) o) begun

  turns_are : (n : ℕ) → after_turns both (own_turns n) ≡ beside (accesses_on state n) o
  turns_are zero = refl
  turns_are (suc n) =
      after_one_more both (own_turns n) A
      ∙ (ap (λ (b : Both). turn_of b A) (turns_are n) ∙ turn_is (accesses_on state n) (begun_on n))

  pub both_begun : AreBegun both
  both_begun = record {
    new = new;
    next = next;
    differ = (other_differs state.walker.id).0;
    ids = ids;
    proper = proper;
    shown = shown;
  }
    where
      new : (side : Side) → IsNew (walker_of both side)
      new A = begins.new
      new B = record { devices = refl; tried = refl; todo = refl; path = refl; stage = refl }

      next : (side : Side) → (walker_of both side).next ≡ 0
      next A = begins.next
      next B = refl

      ids : (side : Side) → (walker_of both side).id < 0xff
      ids A = begins.small
      ids B = let small = (other_differs state.walker.id).1 in omega (arith, small)

      proper : (side : Side) → IsTopology (walker_of both side).view
      proper A = begins.proper
      proper B = begins.proper

      shown : (side : Side) → Fits (walker_of both side).view both.registers
      shown A = begins.shown
      shown B = begins.shown

  pub none_tagged : (side : Side) → AreOwnUntagged (walker_of both side).view both.registers
      (walker_of both side).id
  none_tagged A node inside own = begins.untagged node inside
  none_tagged B node inside own = begins.untagged node inside

  -- ---- what the laws of two say of it

  left_others : (n : ℕ) → LeavesOthers both (beside (accesses_on state n) o)
  left_others n =
      subst (LeavesOthers both) (turns_are n)
      (turns_leave_others both (own_turns n) both_begun none_tagged)

  pub outside_on : (n node : ℕ) → ¬ IsReached state.walker.view node
      → (accesses_on state n).registers node ≡ state.registers node
  outside_on n node apart = (left_others n).outside node apart apart

  -- an entry of the other's ID may change anyway
  pub inside_on : (n node : ℕ) → ChangesOnly (state.walker.id ∷ []) (state.registers node)
      ((accesses_on state n).registers node)
  inside_on n node = record {
    rest = changes.rest;
    routes = λ id most less other.
        changes.routes id most less (λ found. go id most other
        (Contains-cases state.walker.id (other_id state.walker.id ∷ []) id found));
  }
    where
      changes : ChangesOnly (state.walker.id ∷ other_id state.walker.id ∷ [])
          (state.registers node) ((accesses_on state n).registers node)
      changes = (left_others n).inside node

      last : (id : ℕ) → 62 < id
          → (other_id state.walker.id ≡ id) ⊎ Contains [] id → ⊥
      last id most (inl same) =
          let small = (other_differs state.walker.id).1 in omega (arith, small, same, most)
      last id most (inr none) = not_in_empty id none

      go : (id : ℕ) → 62 < id → ¬ Contains (state.walker.id ∷ []) id
          → (state.walker.id ≡ id) ⊎ Contains (other_id state.walker.id ∷ []) id → ⊥
      go id most other (inl same) =
          other (subst (Contains (state.walker.id ∷ [])) same
          (Contains-first state.walker.id []))
      go id most other (inr found) =
          last id most (Contains-cases (other_id state.walker.id) [] id found)

  pub done_map_on : (n : ℕ) → HasNumbered (accesses_on state n).walker
      → KeepsItsMap (accesses_on state n).walker (accesses_on state n).registers
  done_map_on n =
      subst (λ (b : Both). HasNumbered b.first → KeepsItsMap b.first b.registers) (turns_are n)
      (done_keeps_its_map both (own_turns n) A both_begun (none_tagged A))

  carried_on : (n : ℕ) (ask : Asked) (at : PortRef)
      → WantsBehind (accesses_on state n).walker ask at
      → IsCarried (accesses_on state n).walker (accesses_on state n).registers ask at
  carried_on n ask at =
      subst (λ (b : Both). WantsBehind b.first ask at → IsCarried b.first b.registers ask at)
      (turns_are n)
      (accesses_are_carried both (own_turns n) A ask at both_begun (none_tagged A))

pub alone_is_carried : AloneIsCarried
alone_is_carried state n ask at begins wanted = carried_on state begins n ask at wanted
