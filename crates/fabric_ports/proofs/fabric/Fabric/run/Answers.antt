use Rattle.std.proofs.Common.{arith}
use Rattle.fabric_ports.proofs.AfterLaws.{named_after, names_after, stands_after}
use Rattle.fabric_ports.proofs.RanLaws.{err_is, ran_nothing}
use Rattle.fabric_ports.proofs.RoundLaws.{ran_more, ran_short, ran_all}
use Rattle.fabric_ports.proofs.fabric.Fabric.run.Goals as goal

pub loop-init : goal.loop-init
loop-init g c = λ from lines stands. ran_nothing c.args.writer.now stands

pub settle_all-requires-clause-stands : goal.settle_all-requires-clause-stands
settle_all-requires-clause-stands g c = stands_after c.loop.invariant c.requires.stands

pub settle_all-requires-clause-named : goal.settle_all-requires-clause-named
settle_all-requires-clause-named g c =
    named_after c.loop.invariant c.requires.stands c.requires.named

pub returns-in_err-settle_all : goal.returns-in_err-settle_all
returns-in_err-settle_all g c =
    rw (err_is c.from_residual.result c.in_err-settle_all.field-0.0 c.from_residual.ensures.1)
    (λ from lines stands. ran_short c.settle_all.new.writer
    c.loop.counter c.args.rounds c.in_err-settle_all.field-0.0 c.loop-test.true stands
    (c.loop.invariant from lines stands) (c.in_err-settle_all.ensures from))

pub serve_all-requires-clause-stands : goal.serve_all-requires-clause-stands
serve_all-requires-clause-stands g c =
    stands_after c.in_ok-settle_all.ensures (stands_after c.loop.invariant c.requires.stands)

pub serve_all-requires-clause-named : goal.serve_all-requires-clause-named
serve_all-requires-clause-named g c =
    named_after c.in_ok-settle_all.ensures (stands_after c.loop.invariant c.requires.stands)
    (named_after c.loop.invariant c.requires.stands c.requires.named)

pub serve_all-requires-clause-few : goal.serve_all-requires-clause-few
serve_all-requires-clause-few g c =
    rw (
      names_after c.in_ok-settle_all.ensures (stands_after c.loop.invariant c.requires.stands),
      names_after c.loop.invariant c.requires.stands,
    ) c.requires.few

pub loop-preserved : goal.loop-preserved
loop-preserved g c = λ from lines stands. ran_more c.settle_all.new.writer c.serve_all.new.writer
    c.settle_all.new.self c.serve_all.new.self c.loop.counter
    stands (c.loop.invariant from lines stands) (c.in_ok-settle_all.ensures from)
    (c.serve_all.ensures from)

pub returns : goal.returns
returns g c = λ from lines stands. ran_all c.loop.counter c.args.rounds
    (omega arith) (c.loop.invariant from lines stands)
