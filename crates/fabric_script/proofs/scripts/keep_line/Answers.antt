use Rattle.fabric_script.proofs.ScriptLaws.{orderly-spelled}
use Rattle.fabric_script.proofs.scripts.keep_line.Goals as goal

pub returns-in_err-push-in-Ok-clause-orderly : goal.returns-in_err-push-in-Ok-clause-orderly
returns-in_err-push-in-Ok-clause-orderly c =
    rw c.in_ok-add-in-Ok.ensures.added (orderly-spelled c.args.known.now c.args.text.now
    c.in-Ok.line c.requires.orderly (rw c.in-Ok.is at c.in_ok-line.ensures))

pub returns-in_ok-push-in-Ok-clause-orderly : goal.returns-in_ok-push-in-Ok-clause-orderly
returns-in_ok-push-in-Ok-clause-orderly c =
    rw c.in_ok-add-in-Ok.ensures.added (orderly-spelled c.args.known.now c.args.text.now
    c.in-Ok.line c.requires.orderly (rw c.in-Ok.is at c.in_ok-line.ensures))
