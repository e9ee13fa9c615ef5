use Rattle.std.proofs.Common.{refl}
use Rattle.fabric_contest.proofs.StillWaiting.{first_seen, second_seen, none_seen}
use Rattle.fabric_contest.proofs.contest.Contest.turn_and_see.Goals as goal

pub returns-in-A-clause-waits : goal.returns-in-A-clause-waits
returns-in-A-clause-waits c =
    first_seen c.args.self.now c.requires.can c.args.waits c.requires.waits c.turn.new.self
    c.args.side c.in_ok-turn.ensures.both c.in_ok-turn.ensures.lasts c.in-A.is
    (c.if-has_waited.ensures.0 refl)

pub returns-in-B-clause-waits : goal.returns-in-B-clause-waits
returns-in-B-clause-waits c =
    second_seen c.args.self.now c.requires.can c.args.waits c.requires.waits c.turn.new.self
    c.args.side c.in_ok-turn.ensures.both c.in_ok-turn.ensures.lasts c.in-B.is
    (c.if-has_waited-2.ensures.0 refl)

pub returns-in_default-clause-waits : goal.returns-in_default-clause-waits
returns-in_default-clause-waits c =
    none_seen c.args.self.now c.requires.can c.args.waits c.requires.waits c.turn.new.self
    c.args.side c.in_ok-turn.ensures.both c.in_ok-turn.ensures.lasts

pub returns-in_default-2-clause-waits : goal.returns-in_default-2-clause-waits
returns-in_default-2-clause-waits c =
    none_seen c.args.self.now c.requires.can c.args.waits c.requires.waits c.turn.new.self
    c.args.side c.in_ok-turn.ensures.both c.in_ok-turn.ensures.lasts
