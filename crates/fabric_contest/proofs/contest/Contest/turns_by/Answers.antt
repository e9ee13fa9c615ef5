use Rattle.std.proofs.Common.{◌%◌}
use Rattle.host_contest.proofs.Machines.{on_ok}
use Rattle.fabric_contest.specs.Contests.{both_of}
use Rattle.fabric_contest.proofs.StillWaiting.{both_begin}
use Rattle.fabric_contest.proofs.Stopping.{two_and_more}
use Rattle.fabric_contest.proofs.contest.Contest.turns_by.Goals as goal

pub later_turns-requires-clause-begun : goal.later_turns-requires-clause-begun
later_turns-requires-clause-begun c =
    both_begin (both_of c.args.self.now) (both_of c.turn.new.self) (both_of c.turn-2.new.self)
    c.in_ok-turn.ensures.both c.in_ok-turn-2.ensures.both

pub returns-clause-both : goal.returns-clause-both
returns-clause-both c =
    on_ok c.later_turns.result (λ all.
    two_and_more (both_of c.args.self.now) (both_of c.turn.new.self) (both_of c.turn-2.new.self)
    (both_of c.later_turns.new.self) 99998 c.first_number.result (c.args.seed % 2147483648)
    c.in_ok-turn.ensures.both c.in_ok-turn-2.ensures.both all c.first_number.ensures.first)
    c.later_turns.ensures.both
