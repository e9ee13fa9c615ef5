use Rattle.std.proofs.Common.{rules}
use Rattle.fabric_script.specs.Words.{words_left}
use Rattle.trace_lines.proofs.KeywordLaws.{no_keyword}
use Rattle.trace_lines.proofs.reading.read_trace_line.Goals as goal

pub returns-in_default-clause-no_form : goal.returns-in_default-clause-no_form
returns-in_default-clause-no_form c = λ is.
    no_keyword c.args.set_up.now.known c.args.text.now c.split_word.result.0.now
    (words_left c.split_word.result.1) (search rules) c.split_word.ensures
