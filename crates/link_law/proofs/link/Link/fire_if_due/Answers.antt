use Rattle.link_law.proofs.Prelude.{sym, ap, ◌∙◌, PortState, link, TimesOut, may_fire, of_end, end_of, Fire}
use Rattle.link_law.proofs.Noting.{given_is}
use Rattle.link_law.proofs.DeliverLaws.{Only}
use Rattle.link_law.proofs.DoesLaws.{comes_none, did_end}
use Rattle.link_law.proofs.DrainLaws.{fire_comes, fire_ends}
use Rattle.link_law.proofs.link.Link.fire_if_due.Goals as goal

pub returns-then-not-fires-clause-does : goal.returns-then-not-fires-clause-does
returns-then-not-fires-clause-does g c =
    let s = link c.args.self.now c.args.a.now c.args.b.now in
    comes_none g.W.Watch.grew g.W.Watch.cut g.met.W.Watch.is_watch (of_end c.args.side
    (λ link. may_fire
    link.a.output)) (Only (Fire c.args.side)) s c.args.watch.now (ap (λ (p : PortState). may_fire
    p.output) (sym (c.near.ensures c.args.self.now)) ∙ sym c.fires.ensures ∙ c.if-not-fires.true)

pub returns-in_err-time_out-clause-does : goal.returns-in_err-time_out-clause-does
returns-in_err-time_out-clause-does g c =
    let s = link c.args.self.now c.args.a.now c.args.b.now in
    let next = link c.time_out.new.self c.time_out.new.a c.time_out.new.b in
    let end = c.in_err-time_out.field-0.0 in
    did_end g.W.Watch.grew g.W.Watch.cut (TimesOut c.args.side) s c.args.watch.now
    c.time_out.new.watch (end_of end) c.from_residual.result next
    (given_is c.from_residual.result (end_of end) c.from_residual.ensures.1)
    (fire_ends g.W.Watch.grew g.W.Watch.cut c.args.side s c.args.watch.now c.time_out.new.watch end
    (ap (λ (p : PortState). may_fire p.output) (sym (c.near.ensures c.args.self.now))
    ∙ sym c.fires.ensures
    ∙ c.if-not-fires.false)
    c.in_err-time_out.ensures.stopped)

pub returns-clause-does : goal.returns-clause-does
returns-clause-does g c =
    let s = link c.args.self.now c.args.a.now c.args.b.now in
    let next = link c.time_out.new.self c.time_out.new.a c.time_out.new.b in
    fire_comes g.W.Watch.grew c.args.side s next c.args.watch.now c.time_out.new.watch
    (ap (λ (p : PortState). may_fire p.output) (sym (c.near.ensures c.args.self.now))
    ∙ sym c.fires.ensures
    ∙ c.if-not-fires.false)
    c.in_ok-time_out.ensures.link c.in_ok-time_out.ensures.noted
