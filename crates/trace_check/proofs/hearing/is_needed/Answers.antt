use Rattle.std.proofs.Common.{◌-◌, rules, arith}
use Rattle.trace_check.proofs.Sparing.{spare-there}
use Rattle.trace_check.proofs.hearing.is_needed.Goals as goal

pub returns-then-eq : goal.returns-then-eq
returns-then-eq c = λ none.
    let within = c.loop-left.invariant.within in
    let some = c.loop-left-test.true in
    spare-there c.args.kept.now.items (c.loop-left.left - 1) c.loop-left.left c.args.turn
    c.args.ack c.args.packet.now c.index.result.now (omega (arith, within, some))
    (omega (arith, within, some)) (search rules) (search rules) (search rules)
    c.loop-left.invariant.none
