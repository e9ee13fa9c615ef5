use Rattle.std.proofs.Common.{sym, ap, ◌∙◌, subst}
use Rattle.link_model.specs.Places.{ReaderStep, outside}
use Rattle.link_model.specs.Reading.{Text}
use Rattle.link_model.specs.declared.reading_kinds.CharKind.{CharKind}
use Rattle.link_entries.specs.Readers.{IsAt}
use Rattle.link_entries.proofs.ReadingLaws.{within_bytes}
use Rattle.link_entries.proofs.reading.after_outside.Goals as goal

pub returns-in-Within-Byte : goal.returns-in-Within-Byte
returns-in-Within-Byte c = λ of packet is events. (
    let byte = c.in-Within-Byte.field-0-1 in
    let within = within_bytes of (sym c.in-Within-Byte.is-0 ∙ is) in
    let same = ap (λ (t : Text). outside t c.args.kind) within.1
    ∙ ap (λ (k : CharKind). outside (Text.Within within.0) k) c.in-Within-Byte.is-1 in
    subst (λ (s : ReaderStep). IsAt c.after_byte.result s.place) (sym same)
    (c.after_byte.ensures within.0 byte packet (events ∙ ap (λ (s : ReaderStep). s.gives) same)))
