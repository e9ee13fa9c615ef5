-- Once each walker waits or has stopped, turns change nothing.
use Rattle.std.proofs.Common.{◌≡◌, ℕ, suc, ◌+◌, ◌-◌, ◌<◌, true, ◌&&◌, ◌||◌, List, [], ◌∷◌, None, ◌⊎◌, inl, inr, arith, refl, sym, ap, ◌∙◌}
use Rattle.std.proofs.lemmas.Bool.{and_parts, or_cases}
use Rattle.fabric_map.specs.Routes.{AllRegisters}
use Rattle.link_watch.specs.declared.side.Side.{Side}
use Rattle.link_watch.specs.declared.side.Side.TheVariants.{A, B}
use Rattle.fabric_script.specs.Soak.{next_number, numbers_behind}
use Rattle.contest_machine.specs.declared.stages.PendingWrite.{PendingWrite}
use Rattle.contest_machine.specs.declared.stages.Stage.{Stage}
use Rattle.contest_machine.specs.declared.stages.Stage.TheVariants.{Ask, Claim, Check, Test, Features, Information, Status, Free, Done, Lost}
use Rattle.contest_machine.specs.Machine.{Walker, State, wants_at, wants_with, wants}
use Rattle.contest_machine.specs.Turns.{walker_turned, Both, turn_of, after_turns}
use Rattle.host_contest.specs.Machines.{is_clear, is_last_stage}
use Rattle.host_contest.proofs.Stepping.{idle, turned_later}
use Rattle.fabric_contest.specs.Contests.{both_of, has_stopped}
use Rattle.fabric_contest.specs.declared.contest.Contest.{Contest}
use Rattle.fabric_contest.specs.declared.contest.WhoWaits.{WhoWaits}
use Rattle.fabric_contest.specs.Orders.{side_by, sides_behind}
use Rattle.fabric_contest.specs.Waits.{WaitsChangeNothing}
use Rattle.fabric_contest.proofs.Playing.{first_at, second_at}

-- ---- of any turns

module _ {S : Type 0} (step : S → Side → S) (fold : S → List Side → S)
    (none : (s : S) → fold s [] ≡ s)
    (one : (s : S) (side : Side) (sides : List Side) → fold s (side ∷ sides)
    ≡ fold (step s side) sides)
  where
    -- turns of which each changes nothing
    stays : (s : S) → ((side : Side) → step s side ≡ s) → (sides : List Side) → fold s sides ≡ s
    stays s same [] = none s
    stays s same (side ∷ sides) =
        one s side sides ∙ (ap (λ t. fold t sides) (same side) ∙ stays s same sides)

    -- so many are left, and one of them is made
    next_left : (s t end : S) (count made number next : ℕ) → made < count
        → fold s (sides_behind (count - made) number) ≡ end → next ≡ next_number number
        → t ≡ step s (side_by next) → fold t (sides_behind (count - (made + 1)) next) ≡ end
    unfolding numbers_behind
    next_left s t end count made number next less was is came =
        let left = count - (made + 1) in
        let more : count - made ≡ suc left = omega (arith, less) in
        ap (λ u. fold u (sides_behind left next)) came
        ∙ (sym (one s (side_by next) (sides_behind left next))
        ∙ (ap (λ n. fold s (side_by n ∷ sides_behind left n)) is
        ∙ (ap (λ n. fold s (sides_behind n number)) (sym more) ∙ was)))

    -- none is left
    none_left : (s end : S) (count made number : ℕ) → made ≡ count
        → fold s (sides_behind (count - made) number) ≡ end → s ≡ end
    unfolding numbers_behind
    none_left s end count made number all was =
        let left : 0 ≡ count - made = omega (arith, all) in
        sym (none s) ∙ (ap (λ n. fold s (sides_behind n number)) left ∙ was)

-- ---- of walkers

ended_wants : (w : Walker) (stage : Stage) → is_last_stage stage ≡ true → None ≡ wants_at w stage
ended_wants w Ask is = absurd (cc)
ended_wants w Claim is = absurd (cc)
ended_wants w Check is = absurd (cc)
ended_wants w Test is = absurd (cc)
ended_wants w Features is = absurd (cc)
ended_wants w Information is = absurd (cc)
ended_wants w Status is = absurd (cc)
ended_wants w Free is = absurd (cc)
ended_wants w Done is = refl
ended_wants w Lost is = refl

no_wants : (w : Walker) → is_last_stage w.stage ≡ true → is_clear w.todo ≡ true → None ≡ wants w
no_wants w last clear = go w.todo clear
  where
    go : (todo : List PendingWrite) → is_clear todo ≡ true → None ≡ wants_with w todo
    go [] is = ended_wants w w.stage last
    go (p ∷ rest) is = absurd (cc)

stopped_turns : (w : Walker) (registers : AllRegisters) → w.begun ≡ true
    → (is_last_stage w.stage && is_clear w.todo) ≡ true
    → walker_turned w registers ≡ record { walker = w; registers = registers }
stopped_turns w registers begun over =
    let parts = and_parts (is_last_stage w.stage) (is_clear w.todo) over in
    sym (idle w registers (no_wants w parts.0 parts.1) ∙ turned_later w registers begun)

module _ (contest : Contest) (waits : WhoWaits) (so : WaitsChangeNothing (both_of contest) waits)
    (still : ((waits.first || has_stopped contest.first)
    && (waits.second || has_stopped contest.second)) ≡ true) where
  first_stopped : has_stopped contest.first ≡ true → turn_of (both_of contest) A ≡ both_of contest
  first_stopped first =
      let both = both_of contest in
      let parts = and_parts both.first.begun
      (is_last_stage both.first.stage && is_clear both.first.todo) first in
      ap (λ (s : State). first_at s both.second)
      (stopped_turns both.first both.registers parts.0 parts.1)

  second_stopped : has_stopped contest.second ≡ true
      → turn_of (both_of contest) B ≡ both_of contest
  second_stopped second =
      let both = both_of contest in
      let parts = and_parts both.second.begun
      (is_last_stage both.second.stage && is_clear both.second.todo) second in
      ap (λ (s : State). second_at s both.first)
      (stopped_turns both.second both.registers parts.0 parts.1)

  still_of : (side : Side) → turn_of (both_of contest) side ≡ both_of contest
  still_of side = go side
    where
      each : ((waits.first || has_stopped contest.first) ≡ true)
          × ((waits.second || has_stopped contest.second) ≡ true)
      each = and_parts (waits.first || has_stopped contest.first)
          (waits.second || has_stopped contest.second) still

      first : (waits.first ≡ true) ⊎ (has_stopped contest.first ≡ true)
          → turn_of (both_of contest) A ≡ both_of contest
      first (inl waiting) = so.first waiting
      first (inr stopped) = first_stopped stopped

      second : (waits.second ≡ true) ⊎ (has_stopped contest.second ≡ true)
          → turn_of (both_of contest) B ≡ both_of contest
      second (inl waiting) = so.second waiting
      second (inr stopped) = second_stopped stopped

      go : (side : Side) → turn_of (both_of contest) side ≡ both_of contest
      go A = first (or_cases waits.first (has_stopped contest.first) each.0)
      go B = second (or_cases waits.second (has_stopped contest.second) each.1)

  -- whatever turns are left
  pub still_end : (sides : List Side) (end : Both) → after_turns (both_of contest) sides ≡ end
      → both_of contest ≡ end
  still_end sides end was =
      sym (stays turn_of after_turns (λ s. refl) (λ s side sides. refl) (both_of contest)
      still_of sides)
      ∙ was

module _ (s t end : Both) (count made number next : ℕ) where
  pub turns_left : (side : Side) → made < count
      → after_turns s (sides_behind (count - made) number) ≡ end → next ≡ next_number number
      → side ≡ side_by next → t ≡ turn_of s side
      → after_turns t (sides_behind (count - (made + 1)) next) ≡ end
  turns_left side less was is by came =
      next_left turn_of after_turns (λ s. refl) (λ s side sides. refl) s t end count made number
      next
      less was is (came ∙ ap (λ x. turn_of s x) by)

  pub turns_made : made ≡ count → after_turns s (sides_behind (count - made) number) ≡ end → s ≡ end
  turns_made = none_left turn_of after_turns (λ s. refl) (λ s side sides. refl) s end count made
      number

-- the first two turns, and those behind them
pub two_and_more : (s t u end : Both) (count number begun : ℕ) → t ≡ turn_of s A
    → u ≡ turn_of t B → end ≡ after_turns u (sides_behind count number) → number ≡ begun
    → end ≡ after_turns s (A ∷ B ∷ sides_behind count begun)
two_and_more s t u end count number begun first second all is =
    all
    ∙ (ap (λ b. after_turns b (sides_behind count number))
    (second ∙ ap (λ b. turn_of b B) first)
    ∙ ap (λ n. after_turns s (A ∷ B ∷ sides_behind count n)) is)
