use Rattle.std.proofs.Common.{rules}
use Rattle.fabric_script.proofs.SoakLaws.{numbered-push}
use Rattle.fabric_script.proofs.soak.push_line.Goals as goal

pub returns-clause-numbered : goal.returns-clause-numbered
returns-clause-numbered c = λ before is.
    let pushed = numbered-push before c.args.line c.args.lines.now.items is in
    search (rules, c.in_ok-push.ensures.items, pushed)
