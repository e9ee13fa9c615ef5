use Rattle.link_law.proofs.Prelude.{not, refl, ap, ◌∙◌, arith, rules, link, Drains}
use Rattle.link_law.proofs.DrainLaws.{drain_over, round_ends, draining_begins, draining_on, draining_ends}
use Rattle.link_law.proofs.DoesLaws.{did_end}
use Rattle.link_law.proofs.link.Link.drain.Goals as goal

pub loop-init : goal.loop-init
loop-init g c =
    let s = link c.args.self.now c.args.a.now c.args.b.now in (
      draining_begins {cut = g.W.Watch.cut} g.met.W.Watch.is_watch s c.args.watch.now c.requires,
      refl,
    )

pub returns-then-is_idle-clause-does : goal.returns-then-is_idle-clause-does
returns-then-is_idle-clause-does g c =
    let s = link c.args.self.now c.args.a.now c.args.b.now in
    let here = link c.loop.self c.loop.a c.loop.b in
    drain_over {cut = g.W.Watch.cut} g.met.W.Watch.is_watch s here c.args.watch.now c.loop.watch
    (c.is_idle.ensures
    c.loop.a c.loop.b ∙ ap not c.if-is_idle.true) c.loop.invariant.0.way

pub returns-in_err-round-clause-does : goal.returns-in_err-round-clause-does
returns-in_err-round-clause-does g c =
    let s = link c.args.self.now c.args.a.now c.args.b.now in
    let here = link c.loop.self c.loop.a c.loop.b in
    let next = link c.round.new.self c.round.new.a c.round.new.b in
    let end = c.in_err-round.field-0.0 in
    did_end g.W.Watch.grew g.W.Watch.cut Drains s c.args.watch.now c.round.new.watch end
    c.from_residual.result next (search rules)
    (round_ends g.W.Watch.grew g.W.Watch.cut g.met.W.Watch.is_watch s here c.args.watch.now
    c.loop.watch
    c.round.new.watch end c.loop.invariant.0.sound
    (c.is_idle.ensures c.loop.a c.loop.b ∙ ap not c.if-is_idle.false) c.loop.invariant.0.way
    c.in_err-round.ensures.does)

pub loop-preserved : goal.loop-preserved
loop-preserved g c =
    let s = link c.args.self.now c.args.a.now c.args.b.now in
    let here = link c.loop.self c.loop.a c.loop.b in
    let next = link c.round.new.self c.round.new.a c.round.new.b in (
      draining_on {cut = g.W.Watch.cut} g.met.W.Watch.is_watch s here next c.args.watch.now
          c.loop.watch
          c.round.new.watch c.loop.counter (omega arith)
          (c.is_idle.ensures c.loop.a c.loop.b ∙ ap not c.if-is_idle.false)
          c.loop.invariant.0 c.in_ok-round.ensures.does,
      c.in_ok-round.ensures.counts.1 (λ failed. cc) ∙ c.loop.invariant.1,
    )

pub returns-clause-does : goal.returns-clause-does
returns-clause-does g c =
    let s = link c.args.self.now c.args.a.now c.args.b.now in
    let here = link c.loop.self c.loop.a c.loop.b in
    drain_over {cut = g.W.Watch.cut} g.met.W.Watch.is_watch s here c.args.watch.now c.loop.watch
    (draining_ends s
    here c.args.watch.now c.loop.watch c.loop.counter (omega arith) c.loop.invariant.0)
    c.loop.invariant.0.way
