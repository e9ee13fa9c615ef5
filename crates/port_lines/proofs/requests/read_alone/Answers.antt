use Rattle.std.proofs.Common.{◌≤◌, length, sym, ap, subst, arith}
use Rattle.fabric_script.specs.Words.{words_left}
use Rattle.port_lines.proofs.FaultLaws.{other_count}
use Rattle.port_lines.proofs.RequestLaws.{some_left}
use Rattle.port_lines.proofs.requests.read_alone.Goals as goal

pub returns-in-Some : goal.returns-in-Some
returns-in-Some c =
    let words = words_left c.args.words in
    let some : 1 ≤ length words =
    subst (λ w. 1 ≤ length (words_left w)) (sym c.in-Some.is) (some_left c.in-Some.field-0) in
    other_count c.args.kind words 0 (ap length (sym (c.requires.1 words)))
    (λ none. omega (arith, none, some))
