use Rattle.std.proofs.Common.{◌+◌, Ok, Err, arith, ap, ◌∙◌, subst}
use Rattle.fabric_script.specs.Reasons.{reason_number}
use Rattle.host_enumerate.specs.Devised.{devices_of, links_of}
use Rattle.host_enumerate.specs.Hosts.{FindsHost}
use Rattle.rio_cli.specs.declared.command.Command.TheVariants.{Enumerate}
use Rattle.rio_cli.specs.declared.status.Status.TheVariants.{Script}
use Rattle.rio_cli.specs.Numbering.{HasHost, HitFor}
use Rattle.rio_cli.proofs.AnswerLaws.{says_line, RefusesBytes-line}
use Rattle.rio_cli.proofs.HostLaws.{no_host}
use Rattle.rio_cli.proofs.NumberingLaws.{says_of_bytes}
use Rattle.rio_cli.proofs.top.enumerate_bytes.Goals as goal

pub returns-in-Err-Refused-clause-says : goal.returns-in-Err-Refused-clause-says
returns-in-Err-Refused-clause-says g c =
    let r = c.in-Err-Refused in
    says_line (Enumerate c.args.node) c.args.bytes.now c.refuse_line.result.status r.refusal.line
    r.refusal.reason _ _ _ _ (HitFor (r.ensures.refused r.refusal (ap Err r.field-0-is)))
    c.refuse_line.ensures.refused

pub returns-in-Err-Refused-clause-refuses : goal.returns-in-Err-Refused-clause-refuses
returns-in-Err-Refused-clause-refuses g c =
    let r = c.in-Err-Refused in
    RefusesBytes-line Script (Enumerate c.args.node) c.args.bytes.now c.refuse_line.result.status
    c.refuse_line.result.refusal r.refusal.line r.refusal.reason _ _
    (HitFor (r.ensures.refused r.refusal (ap Err r.field-0-is))) c.refuse_line.ensures.refusal

pub returns-in-Ok-Ok-clause-says : goal.returns-in-Ok-Ok-clause-says
returns-in-Ok-Ok-clause-says g c =
    let names = c.in-Ok.script.names.items in
    let lines = c.in-Ok.script.lines.items in
    let is : HasHost c.args.node c.args.bytes.now = record {
      names = names;
      lines = lines;
      spells = c.in-Ok.ensures.script;
      host = c.in-Ok-Ok.host;
      found = subst (λ word. FindsHost names (devices_of lines) (links_of lines) word
          (Ok c.in-Ok-Ok.host)) c.as_slice.ensures
          (subst (FindsHost names (devices_of lines) (links_of lines) c.as_slice.result.now)
          c.in-Ok-Ok.field-0-is c.in-Ok-Ok.ensures);
    } in
    rw c.ended-in-Ok-Ok.ensures (says_of_bytes c.args.node c.args.bytes.now is _ _ _ _
    c.number.result c.number.ensures.says)

pub overflow_add-line : goal.overflow_add-line
overflow_add-line g c =
    let few = c.count_lines-line.ensures.few in
    let most = c.requires in
    omega (arith, few, most)

pub returns-in-Ok-Err-clause-says : goal.returns-in-Ok-Err-clause-says
returns-in-Ok-Err-clause-says g c =
    let bytes = c.args.bytes.now in
    let end = c.in-Ok-Err.end in
    says_line (Enumerate c.args.node) bytes c.refuse_line-in-Ok-Err.result.status
    (c.count_lines-line.result + 1) c.number-in-Ok-Err.result _ _ _ _
    (no_host c.args.node bytes c.in-Ok.script.names.items c.in-Ok.script.lines.items end
    c.as_slice.result.now c.in-Ok-Err.field-0 c.in-Ok.ensures.script c.as_slice.ensures
    c.in-Ok-Err.field-0-is c.in-Ok-Err.ensures c.count_lines-line.result
    c.number-in-Ok-Err.result c.count_lines-line.ensures.count
    (c.number-in-Ok-Err.ensures ∙ ap reason_number c.reason.ensures))
    c.refuse_line-in-Ok-Err.ensures.refused

pub returns-in-Ok-Err-clause-refuses : goal.returns-in-Ok-Err-clause-refuses
returns-in-Ok-Err-clause-refuses g c =
    let bytes = c.args.bytes.now in
    let end = c.in-Ok-Err.end in
    RefusesBytes-line Script (Enumerate c.args.node) bytes c.refuse_line-in-Ok-Err.result.status
    c.refuse_line-in-Ok-Err.result.refusal (c.count_lines-line.result + 1)
    c.number-in-Ok-Err.result _ _
    (no_host c.args.node bytes c.in-Ok.script.names.items c.in-Ok.script.lines.items end
    c.as_slice.result.now c.in-Ok-Err.field-0 c.in-Ok.ensures.script c.as_slice.ensures
    c.in-Ok-Err.field-0-is c.in-Ok-Err.ensures c.count_lines-line.result
    c.number-in-Ok-Err.result c.count_lines-line.ensures.count
    (c.number-in-Ok-Err.ensures ∙ ap reason_number c.reason.ensures))
    c.refuse_line-in-Ok-Err.ensures.refusal
