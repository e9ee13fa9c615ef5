use Rattle.std.proofs.Common.{◌<◌, ◌^◌, sym, ◌∙◌, rules, arith}
use Rattle.std.proofs.lemmas.Fmt.{decimal_injective}
use Rattle.conform_lines.proofs.items.read_five_bits.Goals as goal

pub returns-in_default-clause-spells : goal.returns-in_default-clause-spells
returns-in_default-clause-spells c = λ n low e.
    let text = c.in-Some.ensures in
    let fits : c.in-Some.number < 2 ^ 32 = search rules in
    let same =
    decimal_injective c.in-Some.number n (omega arith) (omega arith) (sym text ∙ e) in
    omega arith
