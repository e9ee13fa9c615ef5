use Rattle.trace_lines.specs.Reads.{line_read}
use Rattle.trace_reactions.specs.Judging.{after_line}
use Rattle.trace_reactions.proofs.JudgedLaws.{answered_more}
use Rattle.trace_reactions.proofs.judge.Judge.take.Goals as goal

pub returns-in-Ok-take-clause-taken : goal.returns-in-Ok-take-clause-taken
returns-in-Ok-take-clause-taken c = λ texts has.
    let line = line_read c.in-Ok.line in (
      after_line has.0 line,
      answered_more c.args.text.now line has.1 c.in-Ok.ensures.line
          (c.in-Ok-take.ensures.passes has.0 has.2),
      c.in-Ok-take.ensures.taken has.0 has.2,
    )
