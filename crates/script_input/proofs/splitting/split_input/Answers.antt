use Rattle.std.proofs.Common.{rules, tests}
use Rattle.script_input.proofs.InputLaws.{one_before}
use Rattle.script_input.proofs.splitting.split_input.Goals as goal

pub loop-text-preserved : goal.loop-text-preserved
loop-text-preserved c =
    one_before c.args.bytes.now c.loop-text.left.now c.in-Some.text.now c.in-Some.behind.now
    c.loop-text.lines c.loop-text.invariant (search rules) (search (rules, tests))
    (search rules) (search rules)
