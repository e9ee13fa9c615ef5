use Rattle.fabric_contest.proofs.Carrying.{first_step, first_reaches}
use Rattle.fabric_contest.proofs.MadeTurns.{on_three_ok, on_six_ok}
use Rattle.fabric_contest.proofs.Playing.{first_can, first_goes}
use Rattle.fabric_contest.proofs.contest.Contest.turn_first.Goals as goal

pub turn_over-requires-clause-can : goal.turn_over-requires-clause-can
turn_over-requires-clause-can c = first_step c.args.self.now c.requires.can

pub turn_over-requires-clause-reach : goal.turn_over-requires-clause-reach
turn_over-requires-clause-reach c = first_reaches c.args.self.now c.requires.can

pub returns-clause-can : goal.returns-clause-can
returns-clause-can c =
    on_six_ok c.turn_over.result (λ stands turned can entries last going.
    first_can c.args.self.now c.requires.can c.turn_over.new.fabric c.turn_over.new.walker turned
    last going can.low entries stands) c.turn_over.ensures.stands c.turn_over.ensures.turned
    c.turn_over.ensures.can c.turn_over.ensures.entries c.turn_over.ensures.last
    c.turn_over.ensures.going

pub returns-clause-goings : goal.returns-clause-goings
returns-clause-goings c =
    on_three_ok c.turn_over.result (λ turned last going.
    first_goes c.args.self.now c.requires.can c.turn_over.new.fabric c.turn_over.new.walker
    turned last going) c.turn_over.ensures.turned c.turn_over.ensures.last
    c.turn_over.ensures.going
