use Rattle.std.proofs.Common.{ap, ◌∙◌, drop-cons}
use Rattle.link_model.specs.declared.reading_kinds.CharKind.{CharKind}
use Rattle.link_model.specs.Places.{step_by}
use Rattle.rio_framer.specs.Framing.{framing_after}
use Rattle.rio_framer.specs.Giving.{told_of_events}
use Rattle.rio_framer.proofs.PartLaws.{part-one, part-symbol}
use Rattle.rio_framer.proofs.framer.Framer.read_part.Goals as goal

pub returns-in-Some : goal.returns-in-Some
returns-in-Some c =
    let from = c.args.self.now.place in
    part-symbol from.text from.pending c.in-Some.delimiter c.in-Some.x c.in-Some.y c.in-Some.z
    c.args.chars.now _ _ (c.is_between.ensures c.if-is_between.true) c.in-Some.ensures
    c.read_symbol-told.ensures.told c.read_symbol-told.ensures.state

pub returns : goal.returns
returns c =
    let from = c.args.self.now.place in
    part-one from _ _ c.args.chars.now _ _ (drop-cons c.args.chars.now 0 _ c.requires.some)
    (c.take-told.ensures.told
    ∙ ap (λ (k : CharKind). told_of_events (step_by from.text from.pending k).gives)
    c.char_kind.ensures)
    (c.take-told.ensures.state
    ∙ ap (λ (k : CharKind). framing_after (step_by from.text from.pending k)) c.char_kind.ensures)
