use Rattle.std.proofs.Common.{◌≡◌, ◌<◌, ◌-◌}
use Rattle.contest_machine.specs.Turns.{after_turns}
use Rattle.fabric_contest.specs.Contests.{both_of, CanTurn}
use Rattle.fabric_contest.specs.Orders.{sides_behind}
use Rattle.fabric_contest.specs.Waits.{WaitsChangeNothing}
use Rattle.fabric_contest.proofs.contest.Contest.later_turns.Given as goal

abbrev pub invariant-loop : goal.invariant-loop
invariant-loop l = record {
  small : l.number < 2147483648;
  can : CanTurn l.self;
  waits : WaitsChangeNothing (both_of l.self) l.waits;
  left : after_turns (both_of l.self) (sides_behind (l.count - l.counter) l.number)
      ≡ after_turns (both_of l.fn.self) (sides_behind l.count l.first);
}
