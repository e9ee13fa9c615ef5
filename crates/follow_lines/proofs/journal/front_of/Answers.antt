use Rattle.std.proofs.Common.{sym, arith}
use Rattle.std.proofs.lemmas.List.{length-take-le, take_all}
use Rattle.follow_lines.proofs.journal.front_of.Goals as goal

pub returns-then-text-le-MOST_BYTES : goal.returns-then-text-le-MOST_BYTES
returns-then-text-le-MOST_BYTES c = sym (take_all 201 c.args.text.now (omega arith))

pub slice_bounds-result-end : goal.slice_bounds-result-end
slice_bounds-result-end c = sym (length-take-le 201 c.args.text.now (omega arith))
