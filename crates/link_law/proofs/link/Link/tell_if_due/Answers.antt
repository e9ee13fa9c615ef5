use Rattle.link_law.proofs.Prelude.{sym, ap, ◌∙◌, rules, PortState, link, NextOf, goes, Drains, of_end, TellsOnce}
use Rattle.link_law.proofs.DoesLaws.{comes_none, did_where, did_next, did_early}
use Rattle.link_law.proofs.DrainLaws.{drain_follows, sound_then}
use Rattle.link_law.proofs.link.Link.tell_if_due.Goals as goal

pub returns-then-not-tells-clause-does : goal.returns-then-not-tells-clause-does
returns-then-not-tells-clause-does g c =
    let s = link c.args.self.now c.args.a.now c.args.b.now in
    let silent =
    ap (λ (p : PortState). p.tells) (sym (c.near.ensures c.args.self.now))
    ∙ sym c.tells.ensures.value
    ∙ c.if-not-tells.true in
    comes_none g.W.Watch.grew g.W.Watch.cut g.met.W.Watch.is_watch
    (of_end c.args.side (λ link. link.a.tells)) (NextOf goes (TellsOnce c.args.side) Drains) s
    c.args.watch.now silent

pub drain-requires : goal.drain-requires
drain-requires g c =
    let s = link c.args.self.now c.args.a.now c.args.b.now in
    let told = link c.tell.new.self c.args.a.now c.args.b.now in
    sound_then (TellsOnce c.args.side) s told c.args.watch.now c.tell.new.watch c.requires
    c.in_ok-tell.ensures.does

pub returns-in_err-tell-clause-does : goal.returns-in_err-tell-clause-does
returns-in_err-tell-clause-does g c =
    let s = link c.args.self.now c.args.a.now c.args.b.now in
    let told = link c.tell.new.self c.args.a.now c.args.b.now in
    let due =
    ap (λ (p : PortState). p.tells) (sym (c.near.ensures c.args.self.now))
    ∙ sym c.tells.ensures.value
    ∙ c.if-not-tells.false in
    did_where g.W.Watch.grew g.W.Watch.cut (of_end c.args.side (λ link. link.a.tells))
    (NextOf goes (TellsOnce c.args.side) Drains) s c.args.watch.now c.tell.new.watch
    c.from_residual.result told due
    (did_early g.met.W.Watch.is_watch c.args.watch.now c.tell.new.watch c.in_err-tell.field-0.0
    c.from_residual.result told (drain_follows (TellsOnce c.args.side) s c.requires) (search rules)
    c.in_err-tell.ensures.does)

pub returns-clause-does : goal.returns-clause-does
returns-clause-does g c =
    let s = link c.args.self.now c.args.a.now c.args.b.now in
    let drained = link c.drain.new.self c.drain.new.a c.drain.new.b in
    let due =
    ap (λ (p : PortState). p.tells) (sym (c.near.ensures c.args.self.now))
    ∙ sym c.tells.ensures.value
    ∙ c.if-not-tells.false in
    did_where g.W.Watch.grew g.W.Watch.cut (of_end c.args.side (λ link. link.a.tells))
    (NextOf goes (TellsOnce c.args.side) Drains) s c.args.watch.now c.drain.new.watch
    c.drain.result drained due
    (did_next g.met.W.Watch.is_watch Drains c.drain.new.watch c.drain.result drained
    c.in_ok-tell.ensures.does c.drain.ensures.does)
