use Rattle.std.proofs.Common.{Err, ap}
use Rattle.io_rounds.proofs.IoFitting.{script_fits}
use Rattle.rio_cli.specs.declared.command.Command.TheVariants.{Io}
use Rattle.rio_cli.specs.declared.status.Status.TheVariants.{Script}
use Rattle.rio_cli.specs.Accessing.{HasAccesses}
use Rattle.rio_cli.proofs.AccessLaws.{says_done, says_fault, says_front}
use Rattle.rio_cli.proofs.AnswerLaws.{says_line, RefusesBytes-line}
use Rattle.rio_cli.proofs.accessing.io_bytes.Goals as goal

pub returns-in-Err-Refused-clause-says : goal.returns-in-Err-Refused-clause-says
returns-in-Err-Refused-clause-says g c =
    let r = c.in-Err-Refused in
    says_line Io c.args.bytes.now c.refuse_line.result.status r.refusal.line r.refusal.reason
    _ _ _ _ (r.ensures.refused r.refusal (ap Err r.field-0-is)) c.refuse_line.ensures.refused

pub returns-in-Err-Refused-clause-refuses : goal.returns-in-Err-Refused-clause-refuses
returns-in-Err-Refused-clause-refuses g c =
    let r = c.in-Err-Refused in
    RefusesBytes-line Script Io c.args.bytes.now c.refuse_line.result.status
    c.refuse_line.result.refusal r.refusal.line r.refusal.reason _ _
    (r.ensures.refused r.refusal (ap Err r.field-0-is)) c.refuse_line.ensures.refusal

pub carry_out-requires : goal.carry_out-requires
carry_out-requires g c =
    script_fits c.args.bytes.now c.in-Ok.script.script.names.items
    c.in-Ok.script.script.lines.items c.in-Ok.script.lines.items c.in-Ok.ensures.script

pub returns-in-Ok-carry_out-clause-says : goal.returns-in-Ok-carry_out-clause-says
returns-in-Ok-carry_out-clause-says g c =
    let is : HasAccesses c.args.bytes.now = record {
      names = c.in-Ok.script.script.names.items;
      set_up = c.in-Ok.script.script.lines.items;
      lines = c.in-Ok.script.lines.items;
      spells = c.in-Ok.ensures.script;
    } in
    rw c.ended-in-Ok-carry_out.ensures
    (says_done is (g.K.Sink.written c.args.sink.now) (g.K.Sink.faults c.args.sink.now)
    (g.K.Sink.written c.carry_out.new.sink) (g.K.Sink.faults c.carry_out.new.sink)
    c.in-Ok-carry_out.ensures.done)

pub returns-in-Err-WriteFault-clause-says : goal.returns-in-Err-WriteFault-clause-says
returns-in-Err-WriteFault-clause-says g c =
    let is : HasAccesses c.args.bytes.now = record {
      names = c.in-Ok.script.script.names.items;
      set_up = c.in-Ok.script.script.lines.items;
      lines = c.in-Ok.script.lines.items;
      spells = c.in-Ok.ensures.script;
    } in
    rw c.ended-in-Err-WriteFault.ensures
    (says_fault is (g.K.Sink.written c.args.sink.now) (g.K.Sink.faults c.args.sink.now)
    (g.K.Sink.written c.carry_out.new.sink) (g.K.Sink.faults c.carry_out.new.sink)
    (c.in-Err-WriteFault.ensures.write_fault (ap Err c.in-Err-WriteFault.field-0-is)))

pub returns-clause-says : goal.returns-clause-says
returns-clause-says g c =
    let is : HasAccesses c.args.bytes.now = record {
      names = c.in-Ok.script.script.names.items;
      set_up = c.in-Ok.script.script.lines.items;
      lines = c.in-Ok.script.lines.items;
      spells = c.in-Ok.ensures.script;
    } in
    rw c.ended-in-Err-NoMemory-carry_out.ensures
    (says_front is (g.K.Sink.written c.args.sink.now) (g.K.Sink.faults c.args.sink.now)
    (g.K.Sink.written c.carry_out.new.sink) (g.K.Sink.faults c.carry_out.new.sink)
    (c.in-Err-NoMemory-carry_out.ensures.no_memory
    (ap Err c.in-Err-NoMemory-carry_out.field-0-is)))
