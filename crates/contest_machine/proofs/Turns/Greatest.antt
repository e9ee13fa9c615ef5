-- The greater of two hosts holds on, on either side, and who has ended stays so.
use Rattle.contest_machine.proofs.Prelude.{◌≡◌, ◌≢◌, ◌<◌, Bool, true, false, List, [], ◌∷◌, None, ◌⊎◌, inl, inr, subst, sym, refl, ap, ◌∙◌, if◌then◌else◌, cases_order, AllRegisters, other_side, Side, A, B, Stage, Lost, Walker, State, wants, wants_at, wants_with, reaches, stepped, is_locking, locked_on, walker_turned, Both, turn_of, after_turns, HoldsOn, walker_of, state_of, AreBegun, IsUnlocked, IsLeftAlone}
use Rattle.contest_machine.proofs.Keeping.Greater.{greater_holds_on}

-- ---- the greater of two hosts, on either side

abbrev flipped : Both → Both
flipped both = record { first = both.second; second = both.first; registers = both.registers }

abbrev flipped_turns : List Side → List Side
flipped_turns [] = []
flipped_turns (side ∷ turns) = other_side side ∷ flipped_turns turns

flip_one : (both : Both) (side : Side)
    → turn_of (flipped both) (other_side side) ≡ flipped (turn_of both side)
flip_one both A = refl
flip_one both B = refl

flip_all : (both : Both) (turns : List Side)
    → after_turns (flipped both) (flipped_turns turns) ≡ flipped (after_turns both turns)
flip_all both [] = refl
flip_all both (side ∷ turns) =
    ap (λ b. after_turns b (flipped_turns turns)) (flip_one both side)
    ∙ flip_all (turn_of both side) turns

greater_for : (both : Both) (turns : List Side) (side : Side) → AreBegun both
    → IsUnlocked both.registers
    → (walker_of both (other_side side)).id < (walker_of both side).id
    → HoldsOn (walker_of (after_turns both turns) side).stage
greater_for both turns A begun free less =
    greater_holds_on both turns (begun.new A) (begun.new B) less (begun.ids A) free
greater_for both turns B begun free less =
    subst (λ (b : Both). HoldsOn b.first.stage) (flip_all both turns)
    (greater_holds_on (flipped both) (flipped_turns turns) (begun.new B) (begun.new A) less
    (begun.ids B) free)

pub lost_holds : HoldsOn Lost → ⊥
lost_holds on = on

-- so who is left alone holds on
pub alone_holds : (both : Both) (earlier turns : List Side) (side : Side)
    → IsLeftAlone both earlier side → HoldsOn (walker_of (after_turns both turns) side).stage
alone_holds both earlier turns side alone =
    go side alone (cases_order (walker_of both (other_side side)).id (walker_of both side).id)
  where
    begun : AreBegun both
    begun = alone.begun

    greater : (side : Side) → IsLeftAlone both earlier side
        → (walker_of both side).id < (walker_of both (other_side side)).id → ⊥
    greater A alone less =
        lost_holds (subst HoldsOn alone.lost
        (greater_for both earlier B alone.begun alone.unlocked less))
    greater B alone less =
        lost_holds (subst HoldsOn alone.lost
        (greater_for both earlier A alone.begun alone.unlocked less))

    differ : (side : Side) → (walker_of both (other_side side)).id ≢ (walker_of both side).id
    differ A same = begun.differ (sym same)
    differ B same = begun.differ same

    go : (side : Side) → IsLeftAlone both earlier side
        → ((walker_of both (other_side side)).id ≡ (walker_of both side).id)
        ⊎ (((walker_of both (other_side side)).id < (walker_of both side).id)
        ⊎ ((walker_of both side).id < (walker_of both (other_side side)).id))
        → HoldsOn (walker_of (after_turns both turns) side).stage
    go side alone (inl same) = absurd (differ side same)
    go side alone (inr (inl less)) = greater_for both turns side alone.begun alone.unlocked less
    go side alone (inr (inr more)) = absurd (greater side alone more)

-- ---- a walker that has ended

ended_step : (w : Walker) (old : AllRegisters) → wants w ≡ None → stepped w old ≡ state_of w old
ended_step w old none = ap (λ o. reaches w old o) none

none_wanted : (w : Walker) (stage : Stage) → w.stage ≡ stage → w.todo ≡ []
    → wants_at w stage ≡ None → wants w ≡ None
none_wanted w stage is clear none =
    ap (λ t. wants_with w t) clear ∙ (ap (λ s. wants_at w s) is ∙ none)

pub ended_turn : (w : Walker) (old : AllRegisters) (stage : Stage) → w.stage ≡ stage → w.todo ≡ []
    → ((v : Walker) → wants_at v stage ≡ None) → is_locking stage ≡ false
    → ((walker_turned w old).walker.stage ≡ stage) × ((walker_turned w old).walker.todo ≡ [])
ended_turn w old stage is clear none no_lock = go w.begun
  where
    once : stepped w old ≡ state_of w old
    once = ended_step w old (none_wanted w stage is clear (none w))

    begun : Walker
    begun = record w { begun = true }

    first : stepped (record w { begun = true }) old ≡ state_of (record w { begun = true }) old
    first = ended_step (record w { begun = true }) old
        (none_wanted (record w { begun = true }) stage is clear (none (record w { begun = true })))

    on : locked_on (state_of (record w { begun = true }) old)
        ≡ state_of (record w { begun = true }) old
    on = ap (λ b. if b then stepped (record w { begun = true }) old
        else state_of (record w { begun = true }) old) (ap is_locking is ∙ no_lock)

    whole : locked_on (locked_on (stepped (record w { begun = true }) old))
        ≡ state_of (record w { begun = true }) old
    whole = ap (λ s. locked_on (locked_on s)) first ∙ (ap locked_on on ∙ on)

    go : (b : Bool) → ((if b then stepped w old
        else locked_on (locked_on (stepped (record w { begun = true }) old))).walker.stage ≡ stage)
        × ((if b then stepped w old
        else locked_on (locked_on (stepped (record w { begun = true }) old))).walker.todo ≡ [])
    go true = (
      ap (λ (s : State). s.walker.stage) once ∙ is,
      ap (λ (s : State). s.walker.todo) once ∙ clear,
    )
    go false = (
      ap (λ (s : State). s.walker.stage) whole ∙ is,
      ap (λ (s : State). s.walker.todo) whole ∙ clear,
    )
