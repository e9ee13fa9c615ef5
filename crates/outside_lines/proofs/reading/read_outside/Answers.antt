use Rattle.std.proofs.Common.{inr, rules}
use Rattle.outside_lines.proofs.reading.read_outside.Goals as goal

pub returns-in-Some-strip_prefix-2-clause-refused :
    goal.returns-in-Some-strip_prefix-2-clause-refused
returns-in-Some-strip_prefix-2-clause-refused c = λ number is.
    inr (inr (
      c.in-Some-strip_prefix-2.words.now,
      search rules,
      c.read_pump.ensures.refused number is,
    ))
