use Rattle.std.proofs.Common.{[], rules, sym, ◌∙◌}
use Rattle.rio_chars.specs.Written.{Writes}
use Rattle.fabric_replay.proofs.Writing.{written_front, written_fault, written_done, written_undetected, on_ok}
use Rattle.fabric_replay.proofs.replaying.write_trace.Goals as goal

pub returns-then-failed-clause-write_fault : goal.returns-then-failed-clause-write_fault
returns-then-failed-clause-write_fault g c =
    let names = c.args.script.now.names.items in
    let script = c.args.script.now.lines.items in
    let front = c.tell_trace-end.ensures.front in
    let named = c.deref.ensures.value in
    let left = c.tell_trace-end.new.writer.outbox.now in
    let flushed : Writes left c.flush.new.self [] = search rules in
    λ is. (
      written_fault names script _ front named c.requires.fine flushed
          (sym c.failed.ensures ∙ c.if-failed.true),
      written_front names script _ front named c.requires.passes c.requires.empty flushed,
    )

pub returns-clause-done : goal.returns-clause-done
returns-clause-done g c =
    let names = c.args.script.now.names.items in
    let script = c.args.script.now.lines.items in
    let left = c.tell_trace-end.new.writer.outbox.now in
    let flushed : Writes left c.flush.new.self [] = search rules in
    let fine = sym c.failed.ensures ∙ c.if-failed.false in
    on_ok c.tell_trace-end.result
    (λ whole. written_done names script _ whole c.deref.ensures.value c.requires.passes
    c.requires.empty flushed fine c.flush.ensures.empty)
    c.tell_trace-end.ensures.done

pub returns-clause-undetected : goal.returns-clause-undetected
returns-clause-undetected g c =
    let names = c.args.script.now.names.items in
    let script = c.args.script.now.lines.items in
    let left = c.tell_trace-end.new.writer.outbox.now in
    let flushed : Writes left c.flush.new.self [] = search rules in
    let fine = sym c.failed.ensures ∙ c.if-failed.false in
    λ line port event is.
    written_undetected names script _ line port event
    (c.tell_trace-end.ensures.undetected line port event is) c.deref.ensures.value
    c.requires.passes c.requires.empty flushed fine c.flush.ensures.empty

pub returns-clause-no_memory : goal.returns-clause-no_memory
returns-clause-no_memory g c = λ is.
    let names = c.args.script.now.names.items in
    let script = c.args.script.now.lines.items in
    let left = c.tell_trace-end.new.writer.outbox.now in
    let flushed : Writes left c.flush.new.self [] = search rules in
    written_front names script _ c.tell_trace-end.ensures.front c.deref.ensures.value
    c.requires.passes c.requires.empty flushed
