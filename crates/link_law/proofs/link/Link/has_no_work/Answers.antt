use Rattle.link_law.proofs.Prelude.{◌&&◌, sym, ap, ◌∙◌, Wires, has_none, are_idle}
use Rattle.link_law.proofs.link.Link.has_no_work.Goals as goal

pub returns-then-are_silent : goal.returns-then-are_silent
returns-then-are_silent c =
    c.are_idle.ensures
    ∙ ap (λ silent. silent && are_idle c.args.a.now c.args.b.now)
    (sym c.if-are_silent.true ∙ c.are_silent.ensures
    ∙ ap (λ (wires : Wires). has_none wires.a.chars && has_none wires.b.chars) c.self.view_is)

pub returns-else-are_silent : goal.returns-else-are_silent
returns-else-are_silent c =
    c.if-are_silent.false
    ∙ ap (λ silent. silent && are_idle c.args.a.now c.args.b.now)
    (sym c.if-are_silent.false ∙ c.are_silent.ensures
    ∙ ap (λ (wires : Wires). has_none wires.a.chars && has_none wires.b.chars) c.self.view_is)
