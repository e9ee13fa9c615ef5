use Rattle.std.proofs.Common.{ap, sym, ◌∙◌}
use Rattle.fabric_script.specs.Words.{reason_at_end, words_left, Left}
use Rattle.fabric_script.proofs.Taking.{end_of-some}
use Rattle.fabric_script.proofs.words.Words.end.Goals as goal

pub returns-in-Some : goal.returns-in-Some
returns-in-Some c =
    sym (ap {A = Left} reason_at_end (sym c.self.view_is)
    ∙ ap (λ rest. reason_at_end record { words = words_left rest; hit = c.self.inside.hit })
    c.in-Some.is ∙ end_of-some c.in-Some.field-0.now c.self.inside.hit)
