use Rattle.std.proofs.Common.{◌∙◌}
use Rattle.rio_cli.specs.declared.status.Status.TheVariants.{Script}
use Rattle.rio_cli.proofs.AnswerLaws.{tells_refusal}
use Rattle.rio_cli.proofs.top.refuse_line.Goals as goal

pub returns-clause-refusal : goal.returns-clause-refusal
returns-clause-refusal g c =
    let new = c.in-Ok.ensures in
    tells_refusal Script c.args.command c.args.bytes.now c.args.line c.args.reason
    c.tell_refusal.result.status c.tell_refusal.result.refusal c.in-Ok.refusal
    c.as_bytes.result.now _ _ new.command new.line new.reason new.message
    (c.as_bytes.ensures.value ∙ c.in-Ok-format.ensures.ok)
    c.tell_refusal.ensures.told
