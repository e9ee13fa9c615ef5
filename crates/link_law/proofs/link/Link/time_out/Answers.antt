use Rattle.link_law.proofs.Prelude.{◌≡◌, true, [], ◌∷◌, subst, sym, ap, ◌∙◌, if◌then◌else◌, stopped_in_one, fired_keeps}
use Rattle.link_machine.specs.Prelude.{Stopped, Fire, is_silent, timed_out_at, IsSoundLink, LinkState, Wires, link}
use Rattle.link_law.proofs.Noting.{on_err}
use Rattle.link_law.proofs.link.Link.time_out.Goals as goal

pub returns-in_err-fire-clause-stopped : goal.returns-in_err-fire-clause-stopped
returns-in_err-fire-clause-stopped g c =
    let silent : is_silent (link c.args.self.now c.args.a.now c.args.b.now) ≡ true =
    sym
    (c.time_out.ensures.early
    ∙ ap (λ (wires : Wires). is_silent (link wires c.args.a.now c.args.b.now)) c.self.view_is)
    ∙ c.if-not-time_out.false in
    on_err c.from_residual.result
    (subst (λ b. Stopped g.W.Watch.grew g.W.Watch.cut c.args.watch.now
    (if b then Fire c.args.side ∷ [] else []) c.fire.new.self) (sym silent)
    (stopped_in_one g.met.W.Watch.is_watch c.args.watch.now
    c.fire.new.self (Fire c.args.side) c.in_err-fire.ensures.stopped))

pub returns-clause-sound : goal.returns-clause-sound
returns-clause-sound g c =
    let keeps = fired_keeps c.args.side (link c.args.self.now c.args.a.now c.args.b.now) in
    let is =
    c.time_out.ensures.link
    ∙ ap (λ (wires : Wires). timed_out_at c.args.side (link wires c.args.a.now c.args.b.now))
    c.self.view_is in
    λ l. subst (λ (s : LinkState). IsSoundLink s) (sym is) (keeps l)
