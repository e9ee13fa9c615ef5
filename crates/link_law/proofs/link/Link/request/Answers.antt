use Rattle.link_law.proofs.Prelude.{◌≡◌, true, not, sym, ap, ◌∙◌, rules, PortState, link, from_end, NextOf, At, goes, TimesOut, TakesTurn, rests_to, first_rests, of_end}
use Rattle.link_law.proofs.DoesLaws.{comes_none, did_where, did_next, did_early}
use Rattle.link_law.proofs.DrainLaws.{turn_follows, sound_then}
use Rattle.link_law.proofs.link.Link.request.Given.{Over}
use Rattle.link_law.proofs.link.Link.request.Goals.{After-fire_if_due}
use Rattle.link_law.proofs.link.Link.request.Goals as goal

pub returns-then-is_quiet-clause-does : goal.returns-then-is_quiet-clause-does
returns-then-is_quiet-clause-does g c =
    let s = link c.args.self.now c.args.a.now c.args.b.now in
    let rests =
    ap not
    (ap (λ (p : PortState). rests_to p (from_end c.args.side s).b)
    (sym (c.near.ensures c.args.self.now))
    ∙ ap (rests_to c.near.result.now) (sym (c.far.ensures c.args.self.now))
    ∙ sym c.is_quiet.ensures
    ∙ c.if-is_quiet.true) in
    comes_none g.W.Watch.grew g.W.Watch.cut g.met.W.Watch.is_watch
    (of_end c.args.side (λ link. not (first_rests link)))
    (NextOf goes (TimesOut c.args.side) (TakesTurn c.args.side)) s c.args.watch.now rests

pub take_turn-requires : goal.take_turn-requires
take_turn-requires g c =
    let s = link c.args.self.now c.args.a.now c.args.b.now in
    let fired = link c.fire_if_due.new.self c.fire_if_due.new.a c.fire_if_due.new.b in
    sound_then (TimesOut c.args.side) s fired c.args.watch.now c.fire_if_due.new.watch c.requires
    c.in_ok-fire_if_due.ensures.does

-- the direction is not at rest
is_due : (g : Over) (c : After-fire_if_due g)
    → of_end c.args.side (λ link. not (first_rests link))
    (At (link c.args.self.now c.args.a.now c.args.b.now)) ≡ true
is_due g c =
    let s = link c.args.self.now c.args.a.now c.args.b.now in
    ap not
    (ap (λ (p : PortState). rests_to p (from_end c.args.side s).b)
    (sym (c.near.ensures c.args.self.now))
    ∙ ap (rests_to c.near.result.now) (sym (c.far.ensures c.args.self.now))
    ∙ sym c.is_quiet.ensures
    ∙ c.if-is_quiet.false)

pub returns-in_err-fire_if_due-clause-does : goal.returns-in_err-fire_if_due-clause-does
returns-in_err-fire_if_due-clause-does g c =
    let s = link c.args.self.now c.args.a.now c.args.b.now in
    let fired = link c.fire_if_due.new.self c.fire_if_due.new.a c.fire_if_due.new.b in
    let due = is_due g (goal.at.returns-in_err-fire_if_due-clause-does g c).After-fire_if_due in
    did_where g.W.Watch.grew g.W.Watch.cut (of_end c.args.side (λ link. not (first_rests link)))
    (NextOf goes (TimesOut c.args.side) (TakesTurn c.args.side)) s c.args.watch.now
    c.fire_if_due.new.watch
    c.from_residual.result fired due
    (did_early g.met.W.Watch.is_watch c.args.watch.now c.fire_if_due.new.watch
    c.in_err-fire_if_due.field-0.0
    c.from_residual.result fired (turn_follows c.args.side (TimesOut c.args.side) s c.requires)
    (search rules) c.in_err-fire_if_due.ensures.does)

pub returns-clause-does : goal.returns-clause-does
returns-clause-does g c =
    let s = link c.args.self.now c.args.a.now c.args.b.now in
    let next = link c.take_turn.new.self c.take_turn.new.a c.take_turn.new.b in
    let due = is_due g (goal.at.returns-clause-does g c).After-fire_if_due in
    did_where g.W.Watch.grew g.W.Watch.cut (of_end c.args.side (λ link. not (first_rests link)))
    (NextOf goes (TimesOut c.args.side) (TakesTurn c.args.side)) s c.args.watch.now
    c.take_turn.new.watch
    c.take_turn.result next due
    (did_next g.met.W.Watch.is_watch (TakesTurn c.args.side) c.take_turn.new.watch
    c.take_turn.result next
    c.in_ok-fire_if_due.ensures.does c.take_turn.ensures.does)
