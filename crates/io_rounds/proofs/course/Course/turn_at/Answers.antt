use Rattle.std.proofs.Common.{◌++◌, ap, ◌∙◌, arith}
use Rattle.io_rounds.specs.Course.{node_turn}
use Rattle.io_rounds.proofs.RoundLaws.{turn_may, turn_small, index_false}
use Rattle.io_rounds.proofs.StateLaws.{on_else}
use Rattle.io_rounds.proofs.course.Course.turn_at.Goals as goal

pub overflow_cast-node : goal.overflow_cast-node
overflow_cast-node g c =
    let small = turn_small c.args.node c.args.self.now c.requires.way c.requires.within in
    omega (arith, small)

pub turn-requires : goal.turn-requires
turn-requires g c = turn_may c.args.node c.args.self.now c.requires.way c.requires.within
    (index_false c.args.self.now.switches.items c.args.node c.index.result.now c.index.ensures
    c.if-index.false)

pub returns-clause-ended : goal.returns-clause-ended
returns-clause-ended g c = on_else c.turn.result
    (λ given. λ script begun first s rest at is. given script begun first s rest at
    (is ∙ ap (λ b. node_turn b c.args.node ++ rest)
    (index_false c.args.self.now.switches.items c.args.node c.index.result.now c.index.ensures
    c.if-index.false))) c.turn.ensures.ended
