use Rattle.std.proofs.Common.{◌≤◌, length, sym, ap, subst, arith}
use Rattle.fabric_script.specs.Words.{words_left}
use Rattle.port_lines.proofs.RequestLaws.{some_left}
use Rattle.port_lines.proofs.words.one_word.Goals as goal

pub returns-in-Some : goal.returns-in-Some
returns-in-Some c = λ one.
    let split = ap length c.in_ok-word.ensures in
    let more : 1 ≤ length (words_left c.in_ok-word.rest) =
    subst (λ r. 1 ≤ length (words_left r)) (sym c.in-Some.is) (some_left c.in-Some.field-0) in
    omega (arith, one, split, more)
