use Rattle.std.proofs.Common.{sym, arith}
use Rattle.std.proofs.lemmas.List.{length-take-le, take_all}
use Rattle.refusal_words.proofs.citing.front_of.Goals as goal

pub returns-then-text-le-MOST_SHOWN : goal.returns-then-text-le-MOST_SHOWN
returns-then-text-le-MOST_SHOWN c = sym (take_all 80 c.args.text.now (omega arith))

pub slice_bounds-result-end : goal.slice_bounds-result-end
slice_bounds-result-end c = sym (length-take-le 80 c.args.text.now (omega arith))
