use Rattle.std.proofs.Common.{Err, ap, ◌∙◌}
use Rattle.rio_cli.specs.declared.command.Command.TheVariants.{Replay}
use Rattle.rio_cli.proofs.AnswerLaws.{says_line}
use Rattle.rio_cli.proofs.top.replay_bytes.Goals as goal

pub returns-in-Err-Undetected-clause-says : goal.returns-in-Err-Undetected-clause-says
returns-in-Err-Undetected-clause-says g c =
    let e = c.in-Err-Undetected in
    let replayed = c.replay.ensures.undetected e.field-0-0 e.field-0-1 e.field-0-2
    (e.is ∙ ap Err e.field-0-is) in
    rw c.ended-in-Err-Undetected.ensures (record {
      names = c.in-Ok.script.names.items;
      script = c.in-Ok.script.lines.items;
      spells = c.in-Ok.ensures.script;
      line = e.field-0-0;
      port = e.field-0-1;
      event = e.field-0-2;
      replayed = replayed;
    })

pub returns-in-Err-Refused-clause-says : goal.returns-in-Err-Refused-clause-says
returns-in-Err-Refused-clause-says g c =
    let r = c.in-Err-Refused in
    says_line Replay c.args.bytes.now c.refuse_line.result.status r.refusal.line r.refusal.reason
    _ _ _ _ (r.ensures.refused r.refusal (ap Err r.field-0-is)) c.refuse_line.ensures.refused
