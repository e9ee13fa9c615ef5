use Rattle.std.proofs.Common.{◌≡◌, ◌∙◌, ◌++◌, List, ap}
use Rattle.fabric_script.specs.declared.lines.Line.{Line}
use Rattle.fabric_script.specs.Soak.{round_lines, numbered_from}
use Rattle.fabric_script.proofs.SoakLaws.{IfOk-on, joined_round}
use Rattle.fabric_script.proofs.soak.push_round.Goals as goal

pub returns-clause-numbered : goal.returns-clause-numbered
returns-clause-numbered c =
    let n = c.args.count in
    let end = c.push_collects-4.new.lines.items in
    IfOk-on c.push_collects-4.result
    {Q = λ _. (before : List Line) → c.args.lines.now.items ≡ numbered_from 1 before
    → end ≡ numbered_from 1 (before ++ round_lines n)}
    c.push_collects-4.ensures.numbered (λ done last before is.
    let first = c.in_ok-push_line.ensures.numbered before is in
    let zero = c.in_ok-push_collects.ensures.numbered _ first in
    let one = c.in_ok-push_collects-2.ensures.numbered _ zero in
    let two = c.in_ok-push_collects-3.ensures.numbered _ one in
    last _ two ∙ ap (λ ls. numbered_from 1 ls) (joined_round before n))
