use Rattle.std.proofs.Common.{Err, ap}
use Rattle.rio_cli.specs.declared.command.Command.TheVariants.{Check}
use Rattle.rio_cli.specs.declared.status.Status.TheVariants.{Script, Unlawful}
use Rattle.rio_cli.proofs.AnswerLaws.{says_lawful, says_line, says_condemned, RefusesBytes-line}
use Rattle.rio_cli.proofs.top.check_bytes.Goals as goal

pub returns-in-Ok-clause-says : goal.returns-in-Ok-clause-says
returns-in-Ok-clause-says g c =
    says_lawful c.args.bytes.now c.tell_lawful.result.status c.in-Ok.steps _ _ _ _
    c.in-Ok.ensures.lawful c.tell_lawful.ensures.lawful

pub returns-in-Err-Refused-clause-says : goal.returns-in-Err-Refused-clause-says
returns-in-Err-Refused-clause-says g c =
    let r = c.in-Err-Refused in
    says_line Check c.args.bytes.now c.refuse_line.result.status r.refusal.line r.refusal.reason
    _ _ _ _ (r.ensures.refused r.refusal (ap Err r.field-0-is)) c.refuse_line.ensures.refused

pub returns-in-Err-Refused-clause-refuses : goal.returns-in-Err-Refused-clause-refuses
returns-in-Err-Refused-clause-refuses g c =
    let r = c.in-Err-Refused in
    RefusesBytes-line Script Check c.args.bytes.now c.refuse_line.result.status
    c.refuse_line.result.refusal r.refusal.line r.refusal.reason _ _
    (r.ensures.refused r.refusal (ap Err r.field-0-is)) c.refuse_line.ensures.refusal

pub returns-in-Err-Unlawful-clause-says : goal.returns-in-Err-Unlawful-clause-says
returns-in-Err-Unlawful-clause-says g c =
    let u = c.in-Err-Unlawful in
    says_condemned Check c.args.bytes.now c.condemn_line.result.status u.unlawful.line
    u.unlawful.reason _ _ _ _ (u.ensures.unlawful u.unlawful (ap Err u.field-0-is))
    c.condemn_line.ensures.unlawful

pub returns-in-Err-Unlawful-clause-refuses : goal.returns-in-Err-Unlawful-clause-refuses
returns-in-Err-Unlawful-clause-refuses g c =
    let u = c.in-Err-Unlawful in
    RefusesBytes-line Unlawful Check c.args.bytes.now c.condemn_line.result.status
    c.condemn_line.result.refusal u.unlawful.line u.unlawful.reason _ _
    (u.ensures.unlawful u.unlawful (ap Err u.field-0-is)) c.condemn_line.ensures.refusal
