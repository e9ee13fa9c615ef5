use Rattle.std.proofs.Common.{rules, tests}
use Rattle.fabric_script.proofs.SoakLaws.{joined_step, joined_step_kept}
use Rattle.fabric_script.proofs.soak.push_step.Goals as goal

pub returns-in_ok-push_line-3-clause-numbered : goal.returns-in_ok-push_line-3-clause-numbered
returns-in_ok-push_line-3-clause-numbered c = λ before is.
    let first = c.in_ok-push_line.ensures.numbered before is in
    let second = c.in_ok-push_line-2.ensures.numbered _ first in
    let third = c.in_ok-push_line-3.ensures.numbered _ second in
    let joined = joined_step before c.args.value (search (rules, tests)) in
    search (rules, third, joined)

pub returns-else-value-eq0-clause-numbered : goal.returns-else-value-eq0-clause-numbered
returns-else-value-eq0-clause-numbered c = λ before is.
    let first = c.in_ok-push_line.ensures.numbered before is in
    let second = c.in_ok-push_line-2.ensures.numbered _ first in
    let joined = joined_step_kept before c.args.value (search (rules, tests)) in
    search (rules, second, joined)
