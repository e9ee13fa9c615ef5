use Rattle.link_law.proofs.Prelude.{subst, sym, ap, ◌∙◌, stopped_at_once, pumped, pump_notes, IsSoundLink, LinkState, Wires, link, pump_keeps}
use Rattle.link_law.proofs.Noting.{on_ok, on_err}
use Rattle.link_law.proofs.link.Link.pump.Goals as goal

pub returns-in_err-turn-clause-stopped : goal.returns-in_err-turn-clause-stopped
returns-in_err-turn-clause-stopped g c =
    on_err c.from_residual.result
    (stopped_at_once g.met.W.Watch.is_watch
    c.args.watch.now
    (pump_notes c.args.from c.args.turns (link c.args.self.now c.args.a.now c.args.b.now)))

pub returns-clause-sound : goal.returns-clause-sound
returns-clause-sound g c =
    let keeps =
    pump_keeps c.args.from c.args.turns (link c.args.self.now c.args.a.now c.args.b.now) in
    let is =
    c.in_ok-turn.ensures.link
    ∙ ap (λ (wires : Wires). pumped c.args.from c.args.turns (link wires c.args.a.now c.args.b.now))
    c.self.view_is in
    on_ok c.note_sent.result
    (λ l. subst (λ (s : LinkState). IsSoundLink s) (sym is) (keeps l))
