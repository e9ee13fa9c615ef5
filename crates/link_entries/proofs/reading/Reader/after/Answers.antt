use Rattle.std.proofs.Common.{sym, ap, ◌∙◌, subst}
use Rattle.link_model.specs.Places.{ReaderStep}
use Rattle.rio_symbols.specs.Spelling.{spelled}
use Rattle.link_entries.specs.Readers.{IsAt}
use Rattle.link_entries.proofs.ReadingLaws.{step-outside, step-finished}
use Rattle.link_entries.proofs.reading.Reader.after.Goals as goal

pub returns-in-Nothing-default : goal.returns-in-Nothing-default
returns-in-Nothing-default c = λ from packet at events. (
    let same = step-outside from c.args.c c.char_kind-kind.result
    (sym c.in-Nothing-default.is-0 ∙ at.pending) c.char_kind-kind.ensures in
    subst (λ (s : ReaderStep). IsAt c.after_outside.result s.place) (sym same)
    (c.after_outside.ensures from.text packet at.text
    (events ∙ ap (λ (s : ReaderStep). s.gives) same)))

pub returns-in-Two-Byte : goal.returns-in-Two-Byte
returns-in-Two-Byte c = λ from packet at events. (
    let d = c.in-Two-Byte.field-0-0 in
    let x = c.in-Two-Byte.field-1-0 in
    let y = c.in-Two-Byte.field-2-0 in
    let z = c.in-Two-Byte.field-0-1 in
    let same = step-finished from c.args.c d x y z (sym c.in-Two-Byte.is-0 ∙ at.pending)
    (sym c.in-Two-Byte.is-1 ∙ c.char_kind-kind.ensures) in
    subst (λ (s : ReaderStep). IsAt c.after_finished.result s.place) (sym same)
    (c.after_finished.ensures from.text d (spelled x y z) packet at.text
    (events ∙ ap (λ (s : ReaderStep). s.gives) same)))
