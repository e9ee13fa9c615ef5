-- How many turns of a host have gone on, as it is counted.
use Rattle.std.proofs.Common.{◌≡◌, ℕ, ◌+◌, ◌≤◌, List, [], ◌∷◌, ◌++◌, arith, refl, sym, ap, ◌∙◌}
use Rattle.link_watch.specs.declared.side.Side.{Side}
use Rattle.link_watch.specs.declared.side.Side.TheVariants.{A, B}
use Rattle.contest_machine.specs.declared.stages.Turn.{Turn}
use Rattle.contest_machine.specs.declared.stages.Turn.TheVariants as Turns
use Rattle.contest_machine.specs.Turns.{Both, turn_of, after_turns}
use Rattle.contest_machine.specs.Locks.{side_answer}
use Rattle.contest_machine.specs.Going.{AreBegun, going_one, going_in_turn, going_over}
use Rattle.contest_machine.proofs.Turns.Counted.{going_bounded}
use Rattle.host_contest.specs.Walkers.{going_after}
use Rattle.fabric_contest.specs.Contests.{CanTurn}
use Rattle.fabric_contest.specs.LastTurns.{goings_of}
use Rattle.fabric_contest.specs.declared.contest.Contest.{Contest}

-- one more turn is counted
going_append : (both : Both) (side : Side) (turns : List Side) (turn : Side)
    → going_over both side (turns ++ turn ∷ [])
    ≡ going_over both side turns + going_in_turn (after_turns both turns) side turn
going_append both side [] turn = omega arith
going_append both side (first ∷ turns) turn =
    let more = going_append (turn_of both first) side turns turn in
    omega (arith, more)

own_turn : (both : Both) (side : Side)
    → going_in_turn both side side ≡ going_one (side_answer both side)
own_turn both A = refl
own_turn both B = refl

-- a count that stays small is raised by what a turn counts
raised : (going : ℕ) (turn : Turn) → going + going_one turn ≤ 40000
    → going_after going turn ≡ going + going_one turn
raised going Turns.Going small = omega (arith, small)
raised going Turns.Waiting small = omega arith
raised going Turns.Done small = omega arith
raised going Turns.Lost small = omega arith

module _ (begun both : Both) (turns : List Side) (side : Side) (start : AreBegun begun)
    (is : both ≡ after_turns begun turns) (going new : ℕ) (turn : Turn)
    (was : going ≡ going_over begun side turns) (answers : turn ≡ side_answer both side)
    (raises : new ≡ going_after going turn) where
  one_more : going_over begun side (turns ++ side ∷ []) ≡ going + going_one turn
  one_more =
      let more = going_append begun side turns side in
      let own : going_in_turn (after_turns begun turns) side side ≡ going_one turn =
      ap (λ (b : Both). going_in_turn b side side) (sym is)
      ∙ (own_turn both side ∙ ap going_one (sym answers)) in
      omega (arith, more, own, was)

  raised_by : new ≡ going + going_one turn
  raised_by =
      let most = going_bounded begun (turns ++ side ∷ []) side start in
      let more = one_more in
      let small : going + going_one turn ≤ 40000 = omega (arith, most, more) in
      raises ∙ raised going turn small

  pub counted : new ≡ going_over begun side (turns ++ side ∷ [])
  counted = raised_by ∙ sym one_more

  pub counts_one : new ≡ going + going_in_turn both side side
  counts_one =
      raised_by ∙ ap (λ n. going + n) (ap going_one answers ∙ sym (own_turn both side))

-- a turn of the other is not counted
pub not_counted : (begun : Both) (turns : List Side) (side turn : Side) (going : ℕ)
    → going ≡ going_over begun side turns
    → going_in_turn (after_turns begun turns) side turn ≡ 0
    → going ≡ going_over begun side (turns ++ turn ∷ [])
not_counted begun turns side turn going was none =
    let more = going_append begun side turns turn in
    omega (arith, was, none, more)

-- two counts
abbrev pub counts : ℕ → ℕ → ℕ × ℕ
counts first second = (first, second)

pub both_count : (a b c d : ℕ) → a ≡ b → c ≡ d → counts a c ≡ counts b d
both_count a b c d first second = ap (λ n. counts n c) first ∙ ap (λ n. counts b n) second

pub none_went_on : (contest : Contest) → contest.first.going ≡ 0 → contest.second.going ≡ 0
    → goings_of contest ≡ (0, 0)
none_went_on contest first second =
    both_count contest.first.going 0 contest.second.going 0 first second

-- ---- the bound

pub first_goes_few : (contest : Contest) → CanTurn contest → contest.first.going ≤ 40000
first_goes_few contest can =
    let most = going_bounded can.begun can.turns A can.start in
    let is = can.going_first in
    omega (arith, most, is)

pub second_goes_few : (contest : Contest) → CanTurn contest → contest.second.going ≤ 40000
second_goes_few contest can =
    let most = going_bounded can.begun can.turns B can.start in
    let is = can.going_second in
    omega (arith, most, is)
