use Rattle.std.proofs.Common.{[], sym, ap, ◌∙◌}
use Rattle.trace_check.specs.Running.{first_with}
use Rattle.trace_check.proofs.hearing.Hearing.first.Goals as goal

pub returns : goal.returns
returns c = λ run kept.
    c.first_of.ensures
    ∙ ap (λ turn. first_with turn c.args.self.now.unheld.items) kept.next
    ∙ sym (kept.serves [])
