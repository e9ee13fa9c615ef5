use Rattle.link_law.proofs.Prelude.{◌≡◌, true, not, sym, ap, ◌∙◌, rules, PortState, link, NextOf, At, goes, Restarts, Requests, has_failed, of_end}
use Rattle.link_law.proofs.DoesLaws.{comes_none, did_where, did_next, did_early}
use Rattle.link_law.proofs.DrainLaws.{requests_follow, sound_then}
use Rattle.link_law.proofs.link.Link.recover.Given.{Over}
use Rattle.link_law.proofs.link.Link.recover.Goals.{After-restart}
use Rattle.link_law.proofs.link.Link.recover.Goals as goal

pub returns-then-failed-clause-does : goal.returns-then-failed-clause-does
returns-then-failed-clause-does g c =
    let s = link c.args.self.now c.args.a.now c.args.b.now in
    let lost =
    ap not
    (ap (λ (p : PortState). has_failed p.output) (sym (c.near.ensures c.args.self.now))
    ∙ sym c.failed.ensures
    ∙ c.if-failed.true) in
    comes_none g.W.Watch.grew g.W.Watch.cut g.met.W.Watch.is_watch
    (of_end c.args.side (λ link. not (has_failed link.a.output)))
    (NextOf goes (Restarts c.args.side) (Requests c.args.side)) s c.args.watch.now lost

pub request-requires : goal.request-requires
request-requires g c =
    let s = link c.args.self.now c.args.a.now c.args.b.now in
    let restarted = link c.restart.new.self c.restart.new.a c.restart.new.b in
    sound_then (Restarts c.args.side) s restarted c.args.watch.now c.restart.new.watch c.requires
    c.in_ok-restart.ensures.does

-- the port has not failed
is_alive : (g : Over) (c : After-restart g)
    → of_end c.args.side (λ link. not (has_failed link.a.output))
    (At (link c.args.self.now c.args.a.now c.args.b.now)) ≡ true
is_alive g c =
    ap not
    (ap (λ (p : PortState). has_failed p.output) (sym (c.near.ensures c.args.self.now))
    ∙ sym c.failed.ensures
    ∙ c.if-failed.false)

pub returns-in_err-restart-clause-does : goal.returns-in_err-restart-clause-does
returns-in_err-restart-clause-does g c =
    let s = link c.args.self.now c.args.a.now c.args.b.now in
    let restarted = link c.restart.new.self c.restart.new.a c.restart.new.b in
    let alive = is_alive g (goal.at.returns-in_err-restart-clause-does g c).After-restart in
    did_where g.W.Watch.grew g.W.Watch.cut
    (of_end c.args.side (λ link. not (has_failed link.a.output)))
    (NextOf goes (Restarts c.args.side) (Requests c.args.side)) s c.args.watch.now
    c.restart.new.watch
    c.from_residual.result restarted alive
    (did_early g.met.W.Watch.is_watch c.args.watch.now c.restart.new.watch
    c.in_err-restart.field-0.0
    c.from_residual.result restarted
    (requests_follow c.args.side (Restarts c.args.side) s c.requires) (search rules)
    c.in_err-restart.ensures.does)

pub returns-clause-does : goal.returns-clause-does
returns-clause-does g c =
    let s = link c.args.self.now c.args.a.now c.args.b.now in
    let next = link c.request.new.self c.request.new.a c.request.new.b in
    let alive = is_alive g (goal.at.returns-clause-does g c).After-restart in
    did_where g.W.Watch.grew g.W.Watch.cut
    (of_end c.args.side (λ link. not (has_failed link.a.output)))
    (NextOf goes (Restarts c.args.side) (Requests c.args.side)) s c.args.watch.now
    c.request.new.watch
    c.request.result next alive
    (did_next g.met.W.Watch.is_watch (Requests c.args.side) c.request.new.watch c.request.result
    next
    c.in_ok-restart.ensures.does c.request.ensures.does)
