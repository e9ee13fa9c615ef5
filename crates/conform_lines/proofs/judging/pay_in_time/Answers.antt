use Rattle.std.proofs.Common.{subst, rules}
use Rattle.conform_lines.specs.Tolerances.{IsInTime}
use Rattle.conform_lines.proofs.JudgeLaws.{Pays-once, no_iff}
use Rattle.conform_lines.proofs.judging.pay_in_time.Goals as goal

pub returns-then-pay-clause-other : goal.returns-then-pay-clause-other
returns-then-pay-clause-other c = λ late left pays in_time.
    no_iff c.are_in_time.result late c.are_in_time.ensures
    (subst (IsInTime c.args.turns)
    (Pays-once c.args.owed.now.items c.args.sent.now left c.pay.new.owed.items pays
    (search rules)) in_time)
