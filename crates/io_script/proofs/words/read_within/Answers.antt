use Rattle.std.proofs.Common.{◌<◌, ◌^◌, sym, ◌∙◌, rules, arith}
use Rattle.std.proofs.lemmas.Fmt.{decimal_injective}
use Rattle.io_script.proofs.words.read_within.Goals as goal

pub returns-in_default : goal.returns-in_default
returns-in_default c = λ m low high e.
    let text = c.in-Some.ensures in
    let fits : c.in-Some.n < 2 ^ 32 = search rules in
    let same = decimal_injective c.in-Some.n m (omega arith) (omega arith) (sym text ∙ e) in
    omega arith

pub returns-in_default-2 : goal.returns-in_default-2
returns-in_default-2 c = λ m low high e.
    let text = c.in-Some.ensures in
    let fits : c.in-Some.n < 2 ^ 32 = search rules in
    let same = decimal_injective c.in-Some.n m (omega arith) (omega arith) (sym text ∙ e) in
    omega arith
