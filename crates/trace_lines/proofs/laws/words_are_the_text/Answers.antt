use Rattle.trace_lines.proofs.Wording.{words_text}
use Rattle.trace_lines.proofs.laws.words_are_the_text.Goals as goal

pub returns : goal.returns
returns c = words_text
