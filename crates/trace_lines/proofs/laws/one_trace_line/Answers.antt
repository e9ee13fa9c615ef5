use Rattle.std.proofs.Common.{sym, ◌∙◌}
use Rattle.trace_lines.proofs.OneLine as one
use Rattle.trace_lines.proofs.laws.one_trace_line.Goals as goal

pub returns : goal.returns
returns c = λ known text a b orderly x y. one.one_line known a b orderly x.fits y.fits
    (sym x.words ∙ y.words)
