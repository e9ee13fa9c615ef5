use Rattle.std.proofs.Common.{◌≡◌, ◌≢◌, ◌∙◌, ◌%◌, ◌++◌, List, ap, append-nil, sym, rules, tests}
use Rattle.fabric_script.specs.declared.lines.Line.{Line}
use Rattle.fabric_script.specs.Soak.{round_behind, numbered_from}
use Rattle.fabric_script.proofs.SoakLaws.{IfOk-on, tenth_round, no_round}
use Rattle.fabric_script.proofs.soak.push_round_behind.Goals as goal

pub returns-then-number-eq0-clause-numbered : goal.returns-then-number-eq0-clause-numbered
returns-then-number-eq0-clause-numbered c =
    let end = c.push_round.new.lines.items in
    let tenth : c.args.number % 10 ≡ 0 = search (rules, tests) in
    IfOk-on c.push_round.result
    {Q = λ _. (before : List Line) → c.args.lines.now.items ≡ numbered_from 1 before
    → end ≡ numbered_from 1 (before ++ round_behind c.args.number)}
    c.push_round.ensures.numbered (λ done last before is.
    last before is ∙ ap (λ ls. numbered_from 1 (before ++ ls)) (tenth_round c.args.number tenth))

pub returns-clause-numbered : goal.returns-clause-numbered
returns-clause-numbered c = λ before is.
    let other : c.args.number % 10 ≢ 0 = search (rules, tests) in
    is ∙ ap (λ ls. numbered_from 1 ls)
    (sym (append-nil before) ∙ ap (λ ls. before ++ ls) (no_round c.args.number other))
