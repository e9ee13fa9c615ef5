use Rattle.trace_counts.proofs.SumsLaws.{ports-more, ports-all}
use Rattle.trace_counts.proofs.tally.Tallies.new.Goals as goal

pub loop-init : goal.loop-init
loop-init c = c.new-items.ensures.items

pub loop-preserved : goal.loop-preserved
loop-preserved c =
    ports-more c.loop.counter c.loop.items.items _ c.new.result c.loop.invariant c.new.ensures
    c.in_ok-push.ensures.items

pub returns : goal.returns
returns c =
    ports-all c.loop.counter c.from-end.result c.args.nodes c.loop.items.items
    c.loop.auto.counter-end c.loop-test.false c.from-end.ensures c.loop.invariant
