use Rattle.script_input.specs.Inputs.{texts_of}
use Rattle.trace_check.proofs.reading.is_short.Goals as goal

pub returns-in-Some : goal.returns-in-Some
returns-in-Some c = rw c.in-Some.is (c.says_short.ensures (texts_of c.in-Some.field-0-1.now))
