use Rattle.std.proofs.Common.{◌∙◌, subst}
use Rattle.fabric_script.specs.Reading.{Spells}
use Rattle.outside_lines.proofs.ReadingLaws.{settles_none}
use Rattle.outside_lines.proofs.reading.read_end.Goals as goal

pub unreachable-requires : goal.unreachable-requires
unreachable-requires c =
    let known = c.args.set_up.now.known in
    settles_none known c.args.word.now c.in-Ok.field-0
    (subst (λ text. Spells known text c.in-Ok.field-0)
    (c.as_slice.ensures.value ∙ c.in_ok-line.ensures) c.in-Ok.ensures.event)
    c.in_default.ensures
