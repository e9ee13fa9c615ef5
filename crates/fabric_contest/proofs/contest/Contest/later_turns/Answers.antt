use Rattle.std.proofs.Common.{◌≡◌, ◌-◌, ◌∙◌, arith, ap, sym}
use Rattle.contest_machine.specs.Turns.{after_turns}
use Rattle.fabric_contest.specs.Contests.{both_of}
use Rattle.fabric_contest.specs.Orders.{sides_behind}
use Rattle.fabric_contest.proofs.Stopping.{still_end, turns_left, turns_made}
use Rattle.fabric_contest.proofs.StillWaiting.{none_waits}
use Rattle.fabric_contest.proofs.contest.Contest.later_turns.Goals as goal

pub loop-init : goal.loop-init
loop-init c =
    let same : c.args.count - 0 ≡ c.args.count = omega arith in
    record {
      small = c.requires.small;
      can = c.requires.can;
      waits = none_waits (both_of c.args.self.now) c.requires.begun;
      left = ap (λ n. after_turns (both_of c.args.self.now) (sides_behind n c.args.first)) same;
    }

pub loop-preserved : goal.loop-preserved
loop-preserved c = record {
  small = c.next_number-number.ensures.small;
  can = c.in_ok-waits.ensures.can;
  waits = c.in_ok-waits.ensures.waits;
  left = turns_left (both_of c.loop.self) (both_of c.turn_and_see.new.self)
      (after_turns (both_of c.args.self.now) (sides_behind c.args.count c.args.first))
      c.args.count c.loop.counter c.loop.number c.next_number-number.result c.side_by.result
      c.loop-test.true c.loop.invariant.left c.next_number-number.ensures.next c.side_by.ensures
      c.in_ok-waits.ensures.both;
}

pub returns-then-is_still-clause-both : goal.returns-then-is_still-clause-both
returns-then-is_still-clause-both c =
    still_end c.loop.self c.loop.waits c.loop.invariant.waits
    (sym c.is_still.ensures ∙ c.if-is_still.true)
    (sides_behind (c.args.count - c.loop.counter) c.loop.number)
    (after_turns (both_of c.args.self.now) (sides_behind c.args.count c.args.first))
    c.loop.invariant.left

pub returns-clause-both : goal.returns-clause-both
returns-clause-both c =
    turns_made (both_of c.loop.self) (both_of c.loop.self)
    (after_turns (both_of c.args.self.now) (sides_behind c.args.count c.args.first))
    c.args.count c.loop.counter c.loop.number c.loop.number (omega arith) c.loop.invariant.left
