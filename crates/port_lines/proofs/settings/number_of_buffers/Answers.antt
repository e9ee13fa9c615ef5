use Rattle.std.proofs.Common.{◌<◌, ◌^◌, sym, ◌∙◌, rules, arith}
use Rattle.std.proofs.lemmas.Fmt.{decimal_injective}
use Rattle.port_lines.proofs.settings.number_of_buffers.Goals as goal

pub returns-in_default : goal.returns-in_default
returns-in_default c = λ n low high e.
    let text = c.in-Some.ensures in
    let fits : c.in-Some.buffers < 2 ^ 32 = search rules in
    let same =
    decimal_injective c.in-Some.buffers n (omega arith) (omega arith) (sym text ∙ e) in
    omega arith

pub returns-in_default-2 : goal.returns-in_default-2
returns-in_default-2 c = λ n low high e.
    let text = c.in-Some.ensures in
    let fits : c.in-Some.buffers < 2 ^ 32 = search rules in
    let same =
    decimal_injective c.in-Some.buffers n (omega arith) (omega arith) (sym text ∙ e) in
    omega arith
