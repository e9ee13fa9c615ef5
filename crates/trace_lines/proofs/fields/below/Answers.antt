use Rattle.std.proofs.Common.{rules}
use Rattle.trace_lines.proofs.FieldLaws.{not_below}
use Rattle.trace_lines.proofs.fields.below.Goals as goal

pub returns-else-number-from-clause-none : goal.returns-else-number-from-clause-none
returns-else-number-from-clause-none c = λ n less spelled.
    not_below c.args.word.now c.in_ok-number.number c.args.bound n (search rules) (search rules)
    (search rules) c.in_ok-number.ensures.number less spelled
