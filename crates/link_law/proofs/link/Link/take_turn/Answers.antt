use Rattle.link_law.proofs.Prelude.{link, Drains, Pumps, end_of}
use Rattle.link_law.proofs.Noting.{given_is}
use Rattle.link_law.proofs.DoesLaws.{did_next, did_early}
use Rattle.link_law.proofs.DrainLaws.{drain_follows, sound_then, pump_comes, pump_ends}
use Rattle.link_law.proofs.link.Link.take_turn.Goals as goal

pub drain-requires : goal.drain-requires
drain-requires g c =
    let s = link c.args.self.now c.args.a.now c.args.b.now in
    let turned = link c.pump.new.self c.pump.new.a c.pump.new.b in
    sound_then (Pumps c.args.side) s turned c.args.watch.now c.pump.new.watch c.requires
    (pump_comes g.W.Watch.grew c.args.side s turned c.args.watch.now c.pump.new.watch
    c.in_ok-pump.ensures.link c.in_ok-pump.ensures.noted)

pub returns-in_err-pump-clause-does : goal.returns-in_err-pump-clause-does
returns-in_err-pump-clause-does g c =
    let s = link c.args.self.now c.args.a.now c.args.b.now in
    let turned = link c.pump.new.self c.pump.new.a c.pump.new.b in
    let end = c.in_err-pump.field-0.0 in
    did_early g.met.W.Watch.is_watch c.args.watch.now c.pump.new.watch
    (end_of end) c.from_residual.result
    turned (drain_follows (Pumps c.args.side) s c.requires)
    (given_is c.from_residual.result (end_of end) c.from_residual.ensures.1)
    (pump_ends g.W.Watch.grew g.W.Watch.cut c.args.side s c.args.watch.now c.pump.new.watch end
    c.in_err-pump.ensures.stopped)

pub returns-clause-does : goal.returns-clause-does
returns-clause-does g c =
    let s = link c.args.self.now c.args.a.now c.args.b.now in
    let turned = link c.pump.new.self c.pump.new.a c.pump.new.b in
    let drained = link c.drain.new.self c.drain.new.a c.drain.new.b in
    did_next g.met.W.Watch.is_watch Drains c.drain.new.watch c.drain.result drained
    (pump_comes g.W.Watch.grew c.args.side s turned c.args.watch.now c.pump.new.watch
    c.in_ok-pump.ensures.link c.in_ok-pump.ensures.noted) c.drain.ensures.does
