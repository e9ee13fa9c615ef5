use Rattle.trace_lines.proofs.PrintedWords.{printed_words}
use Rattle.trace_lines.proofs.laws.texts_spell_their_lines.Goals as goal

pub returns : goal.returns
returns c = λ known line orderly fits. record {
  words = printed_words known line orderly fits;
  fits = fits;
}
