use Rattle.std.proofs.Common.{subst}
use Rattle.fabric_script.specs.Lines.{words_of}
use Rattle.trace_lines.proofs.FieldLaws.{some_word}
use Rattle.outside_lines.proofs.ReadingLaws.{turns_refused}
use Rattle.outside_lines.specs.Reading.{NoTurns}
use Rattle.outside_lines.proofs.reading.read_pump.Goals as goal

pub returns-in-Err-clause-refused : goal.returns-in-Err-clause-refused
returns-in-Err-clause-refused c = λ number is.
    let known = c.args.set_up.now.known in
    let facing = c.args.facing.now in
    let count = c.in-Some.turns.count.now in
    subst (NoTurns known facing (words_of c.args.words.now)) (cc is)
    (turns_refused known facing (words_of c.args.words.now) (words_of count) c.in-Err.reason
    c.in-Some.turns.port c.in-Some.ensures (some_word count) c.in-Err.ensures)
