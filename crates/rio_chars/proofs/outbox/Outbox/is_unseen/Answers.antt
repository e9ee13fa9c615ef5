use Rattle.std.proofs.Common.{◌≡◌, length, [], ap, sym, ◌∙◌, arith}
use Rattle.std.proofs.lemmas.List.{nil_from_length}
use Rattle.rio_chars.proofs.WrittenLaws.{Writes-unseen}
use Rattle.rio_chars.proofs.outbox.Outbox.is_unseen.Goals as goal

pub returns-then-keeps_nothing : goal.returns-then-keeps_nothing
returns-then-keeps_nothing g c = λ empty.
    let text = c.as_slice.result.now in
    let none : length text ≡ 0 = grind arith in
    rw (← c.self.view_is)
    (Writes-unseen _ (c.keeps_nothing.ensures.keeps_nothing c.if-keeps_nothing.true)
    (sym c.as_slice.ensures ∙ nil_from_length text none))
