-- Once the other host is lost, a host waits no more and is done in the end.
use Rattle.contest_machine.proofs.Prelude.{◌≡◌, ◌≢◌, ℕ, ◌+◌, ◌≤◌, List, [], ◌∷◌, ◌++◌, arith, ◌⊎◌, inl, inr, subst, sym, refl, ap, ◌∙◌, AllRegisters, Side, A, B, PendingWrite, Turn, Stage, Ask, Claim, Check, Test, Features, Information, Status, Free, Done, Lost, Walker, waits_or_goes, ends, came_at, Both, turn_of, after_turns, HoldsOn, walker_of, side_answer, locks_in_turn, HasLesser, going_one, going_in_turn, turns_of, HasNumbered, IsLeftAlone, AloneIsNoWait, AloneIsDone}
use Rattle.contest_machine.specs.declared.stages.Turn.TheVariants as Turns
use Rattle.contest_machine.proofs.Turns.Steps.{after_more}
use Rattle.contest_machine.proofs.Turns.Judging.{lost_stage}
use Rattle.contest_machine.proofs.Turns.WaitingTurns.{turns_stand, turn_waits, new_between}
use Rattle.contest_machine.proofs.Turns.Counted.{FairFor, left_for, turn_fair, turn_left, turns_fair, begun_for, left_at_most}
use Rattle.contest_machine.proofs.Turns.Greatest.{alone_holds, ended_turn, lost_holds}
use Rattle.contest_machine.proofs.Turns.OwnLocks.{OtherIsLost, lost_stays, no_lesser_for}

lost_more : (before : AllRegisters) (both : Both) (side : Side) (turns : List Side)
    → FairFor before both side → OtherIsLost both side → OtherIsLost (after_turns both turns) side
lost_more before both side [] fair lost = lost
lost_more before both side (turn ∷ turns) fair lost =
    lost_more before (turn_of both turn) side turns (turn_fair before both side turn fair)
    (lost_stays before both side turn fair lost)

lost_over : (both : Both) (earlier later : List Side) (side : Side)
    → IsLeftAlone both earlier side → OtherIsLost (after_turns both (earlier ++ later)) side
lost_over both earlier later side alone =
    subst (λ b. OtherIsLost b side) (sym (after_more both earlier later))
    (lost_more both.registers (after_turns both earlier) side later
    (turns_fair both.registers both side earlier (begun_for both side alone.begun)) alone.lost)

pub alone_waits_not : AloneIsNoWait
alone_waits_not both earlier later side alone waits =
    let begun = alone.begun in
    let all : List Side = earlier ++ later in
    let w = walker_of both side in
    let between = turns_stand both.registers w.view w.id (begun.proper side) (begun.shown side)
    (begun.ids side) both side all
    (new_between both.registers w.view w.id (begun.proper side) (begun.shown side)
    (begun.ids side) w refl refl (begun.new side)) in
    no_lesser_for both.registers (after_turns both all) side alone.unlocked
    (turns_fair both.registers both side all (begun_for both side begun))
    (lost_over both earlier later side alone)
    (subst (λ n. HasLesser n (locks_in_turn (after_turns both all) side side))
    (sym between.stands.id_is)
    ((turn_waits both.registers w.view w.id (begun.proper side) (begun.shown side)
    (begun.ids side) (after_turns both all) side between).0 waits))

-- ---- who is done stays done

numbered_turn : (both : Both) (side turn : Side) → HasNumbered (walker_of both side)
    → HasNumbered (walker_of (turn_of both turn) side)
numbered_turn both A A done =
    ended_turn both.first both.registers Done done.0 done.1 (λ v. refl) refl
numbered_turn both A B done = done
numbered_turn both B A done = done
numbered_turn both B B done =
    ended_turn both.second both.registers Done done.0 done.1 (λ v. refl) refl

numbered_over : (both : Both) (side : Side) (turns : List Side) → HasNumbered (walker_of both side)
    → HasNumbered (walker_of (after_turns both turns) side)
numbered_over both side [] done = done
numbered_over both side (turn ∷ turns) done =
    numbered_over (turn_of both turn) side turns (numbered_turn both side turn done)

pub done_stage : (w after : Walker) (stage : Stage) → came_at w after stage ≡ Turns.Done
    → (stage ≡ Done) × (after.todo ≡ [])
done_stage w after Ask is = absurd (waiting w.todo after.todo is)
  where
    waiting : (todo left : List PendingWrite) → waits_or_goes todo left ≢ Turns.Done
    waiting [] [] = λ e. cc
    waiting (p ∷ rest) left = λ e. cc
    waiting [] (p ∷ rest) = λ e. cc
done_stage w after Claim is = absurd (cc)
done_stage w after Check is = absurd (cc)
done_stage w after Test is = absurd (cc)
done_stage w after Features is = absurd (cc)
done_stage w after Information is = absurd (cc)
done_stage w after Status is = absurd (cc)
done_stage w after Free is = absurd (cc)
done_stage w after Done is = (refl, clear after.todo is)
  where
    clear : (left : List PendingWrite) → ends left Turns.Done ≡ Turns.Done → left ≡ []
    clear [] e = refl
    clear (p ∷ rest) e = absurd (cc)
done_stage w after Lost is = absurd (lost after.todo is)
  where
    lost : (left : List PendingWrite) → ends left Turns.Lost ≢ Turns.Done
    lost [] = λ e. cc
    lost (p ∷ rest) = λ e. cc

-- ---- each turn goes on, or is done

-- whatever turns come, no turn of the host waits or is lost
abbrev GoesOn : Both → Side → Type 0
GoesOn both side = (turns : List Side) → (side_answer (after_turns both turns) side ≢ Turns.Waiting)
    × HoldsOn (walker_of (after_turns both turns) side).stage

abbrev IsDoneOrLess : Both → Side → List Side → ℕ → Type 0
IsDoneOrLess both side turns most = HasNumbered (walker_of (after_turns both turns) side)
    ⊎ (left_for (after_turns both turns) side + turns_of side turns ≤ most)

own_counts : (both : Both) (side : Side)
    → going_in_turn both side side ≡ going_one (side_answer both side)
own_counts both A = refl
own_counts both B = refl

answers : (both : Both) (side : Side) (answer : Turn) → side_answer both side ≡ answer
    → GoesOn both side
    → HasNumbered (walker_of (turn_of both side) side) ⊎ (going_in_turn both side side ≡ 1)
answers both side Turns.Going is goes = inr (own_counts both side ∙ ap going_one is)
answers both side Turns.Waiting is goes = absurd ((goes []).0 is)
answers both side Turns.Done is goes =
    inl (done_stage (walker_of both side) (walker_of (turn_of both side) side)
    (walker_of (turn_of both side) side).stage is)
answers both side Turns.Lost is goes =
    absurd (lost_holds (subst HoldsOn
    (lost_stage (walker_of both side) (walker_of (turn_of both side) side)
    (walker_of (turn_of both side) side).stage is) (goes (side ∷ [])).1))

module _ (before : AllRegisters) (side : Side) where
  own_runs : (both : Both) (turns : List Side) → FairFor before both side → GoesOn both side
      → IsDoneOrLess (turn_of both side) side turns (left_for (turn_of both side) side)
      → HasNumbered (walker_of (after_turns (turn_of both side) turns) side)
      ⊎ (left_for (after_turns (turn_of both side) turns) side + (turns_of side turns + 1)
      ≤ left_for both side)
  own_runs both turns fair goes on = go (answers both side (side_answer both side) refl goes) on
    where
      go : HasNumbered (walker_of (turn_of both side) side) ⊎ (going_in_turn both side side ≡ 1)
          → IsDoneOrLess (turn_of both side) side turns (left_for (turn_of both side) side)
          → HasNumbered (walker_of (after_turns (turn_of both side) turns) side)
          ⊎ (left_for (after_turns (turn_of both side) turns) side + (turns_of side turns + 1)
          ≤ left_for both side)
      go (inl done) on = inl (numbered_over (turn_of both side) side turns done)
      go (inr one) (inl done) = inl done
      go (inr one) (inr less) =
          let turn = turn_left before both side side fair in
          inr (omega (arith, one, less, turn))

  other_runs : (both : Both) (turn : Side) (turns : List Side) → FairFor before both side
      → IsDoneOrLess (turn_of both turn) side turns (left_for (turn_of both turn) side)
      → IsDoneOrLess (turn_of both turn) side turns (left_for both side)
  other_runs both turn turns fair (inl done) = inl done
  other_runs both turn turns fair (inr less) =
      let one = turn_left before both side turn fair in
      inr (omega (arith, less, one))

runs : (before : AllRegisters) (both : Both) (side : Side) (turns : List Side)
    → FairFor before both side → GoesOn both side
    → IsDoneOrLess both side turns (left_for both side)
runs before both side [] fair goes = inr (omega arith)
runs before both side (turn ∷ turns) fair goes =
    go side turn fair goes
    (runs before (turn_of both turn) side turns (turn_fair before both side turn fair)
    (λ later. goes (turn ∷ later)))
  where
    go : (side turn : Side) → FairFor before both side → GoesOn both side
        → IsDoneOrLess (turn_of both turn) side turns (left_for (turn_of both turn) side)
        → IsDoneOrLess both side (turn ∷ turns) (left_for both side)
    go A A fair goes on = own_runs before A both turns fair goes on
    go A B fair goes on = other_runs before A both B turns fair on
    go B A fair goes on = other_runs before B both A turns fair on
    go B B fair goes on = own_runs before B both turns fair goes on

alone_goes : (both : Both) (earlier : List Side) (side : Side) → IsLeftAlone both earlier side
    → GoesOn (after_turns both earlier) side
alone_goes both earlier side alone later = (
  subst (λ b. side_answer b side ≢ Turns.Waiting) (after_more both earlier later)
      (alone_waits_not both earlier later side alone),
  subst (λ b. HoldsOn (walker_of b side).stage) (after_more both earlier later)
      (alone_holds both earlier (earlier ++ later) side alone),
)

pub alone_is_done : AloneIsDone
alone_is_done both earlier later side alone many =
    subst (λ b. HasNumbered (walker_of b side)) (sym (after_more both earlier later))
    (go (runs both.registers (after_turns both earlier) side later
    (turns_fair both.registers both side earlier (begun_for both side alone.begun))
    (alone_goes both earlier side alone)))
  where
    most : left_for (after_turns both earlier) side ≤ 27784
    most = left_at_most both earlier side alone.begun

    go : IsDoneOrLess (after_turns both earlier) side later
        (left_for (after_turns both earlier) side)
        → HasNumbered (walker_of (after_turns (after_turns both earlier) later) side)
    go (inl done) = done
    go (inr less) = absurd (omega (arith, less, most, many))
