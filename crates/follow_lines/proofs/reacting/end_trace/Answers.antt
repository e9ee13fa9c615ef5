use Rattle.std.proofs.Common.{sym, ◌∙◌}
use Rattle.follow_lines.proofs.ReactingLaws.{reacts_all, reacts_early}
use Rattle.follow_lines.proofs.reacting.end_trace.Goals as goal

pub returns-in-Some : goal.returns-in-Some
returns-in-Some c =
    reacts_early c.args.judge.now c.args.end c.in-Some.end
    (sym c.lines_end.ensures ∙ c.in-Some.is)

pub returns-in-None : goal.returns-in-None
returns-in-None c =
    reacts_all c.args.judge.now c.args.end c.answered.result
    (sym c.lines_end.ensures ∙ c.in-None.is) c.answered.ensures
