use Rattle.std.proofs.Common.{rules}
use Rattle.trace_lines.proofs.FieldLaws.{no_form, other_form}
use Rattle.trace_lines.proofs.fields.read_form.Goals as goal

pub returns-in_default-check-clause-none : goal.returns-in_default-check-clause-none
returns-in_default-check-clause-none c = λ is packet passes spelled.
    no_form c.as_slice.result.now packet c.args.word.now c.in_default-check.ensures.none
    (search rules) passes spelled

pub returns-clause-none : goal.returns-clause-none
returns-clause-none c = λ is packet passes spelled.
    other_form c.as_slice.result.now c.in-Ok.packet packet c.args.word.now c.in-Ok.field-0-0
    c.in-Ok.ensures.found (search rules) (search rules) passes spelled
