use Rattle.std.proofs.Common.{◌≡◌, drop}
use Rattle.contest_machine.specs.Turns.{after_turns}
use Rattle.fabric_contest.specs.Contests.{both_of, CanTurn}
use Rattle.fabric_contest.specs.LastTurns.{lasts_of, lasts_after_turns, goings_of, goings_after_turns}
use Rattle.fabric_contest.proofs.contest.Contest.turns.Given as goal

abbrev pub invariant-loop-side : goal.invariant-loop-side
invariant-loop-side l = record {
  can : CanTurn l.self;
  left : after_turns (both_of l.self) (drop l.side-index l.sides)
      ≡ after_turns (both_of l.fn.self) l.sides;
  lasts : lasts_after_turns (both_of l.self) (lasts_of l.self) (drop l.side-index l.sides)
      ≡ lasts_after_turns (both_of l.fn.self) (lasts_of l.fn.self) l.sides;
  goings : goings_after_turns (both_of l.self) (goings_of l.self) (drop l.side-index l.sides)
      ≡ goings_after_turns (both_of l.fn.self) (goings_of l.fn.self) l.sides;
}
