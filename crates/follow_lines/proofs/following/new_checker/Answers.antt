use Rattle.std.proofs.Common.{Err, ap}
use Rattle.follow_lines.proofs.InputLaws.{are_refused}
use Rattle.follow_lines.proofs.following.new_checker.Goals as goal

pub returns-in-Err-clause-refused : goal.returns-in-Err-clause-refused
returns-in-Err-clause-refused c =
    rw c.check_end.ensures (are_refused c.args.script.now c.in-Err.end
    (λ refusal same. c.in-Err.ensures.refused refusal (ap (λ e. Err e) same))
    (λ hit same. c.in-Err.ensures.lawful hit (ap (λ e. Err e) same)))
