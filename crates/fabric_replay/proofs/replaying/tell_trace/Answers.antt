use Rattle.std.proofs.Common.{◌≤◌, None, length, sym, ap, ◌∙◌, subst, arith}
use Rattle.trace_lines.specs.Lines.{Ended}
use Rattle.fabric_trace.specs.Runs.{start}
use Rattle.fabric_ports.specs.Events.{MayFollow}
use Rattle.fabric_replay.proofs.Telling.{item_of, may_follow, Going-begin, Going-skip, Going-event, Going-until, Going-end, until_front, whole_front}
use Rattle.fabric_replay.proofs.EarlyEnds.{end_named, Going-ended, ended_front, ended_until, ended_whole}
use Rattle.fabric_replay.proofs.replaying.tell_trace.Goals as goal
use Rattle.fabric_replay.proofs.replaying.tell_trace.Goals.{then-is_event+in_default+else-failed, else-is_event}

pub event-requires : goal.event-requires
event-requires g c =
    let names = c.args.script.now.names.items in
    let script = c.args.script.now.lines.items in
    let h = c.loop-numbered.invariant in
    let is = item_of script _ c.loop-numbered.numbered-index c.numbered-item.result
    c.deref-numbered-items.ensures.value c.numbered-item.is c.loop-numbered-test.true in
    let follows = may_follow names script _ c.numbered-item.result h.lines c.loop-numbered.fabric
    c.requires.passes is (sym c.is_event.ensures ∙ c.if-is_event.true) h.stands in
    record {
      may = subst (λ n. MayFollow c.loop-numbered.fabric n c.numbered-item.result.line)
          (sym (h.adds.names ∙ c.requires.named)) follows;
    }

pub tell_end-requires : goal.tell_end-requires
tell_end-requires g c =
    let names = c.args.script.now.names.items in
    let script = c.args.script.now.lines.items in
    let h = c.loop-numbered.invariant in
    end_named names script _ _ h.lines c.numbered-item.result.line c.loop-numbered.fabric
    c.in-Err.end c.requires.passes (h.adds.names ∙ c.requires.named) h.stands
    (c.in-Err.ensures.ended (start script) h.lines h.stands)

pub returns-in-Err : goal.returns-in-Err
returns-in-Err g c =
    let script = c.args.script.now.lines.items in
    let begun = c.args.writer.now in
    let h = c.loop-numbered.invariant in
    let is = item_of script _ c.loop-numbered.numbered-index c.numbered-item.result
    c.deref-numbered-items.ensures.value c.numbered-item.is c.loop-numbered-test.true in
    let block = sym c.is_event.ensures ∙ c.if-is_event.true in
    let ended = Going-ended begun script _ c.numbered-item.result _ _ _ _ c.in-Err.end
    c.tell_end.result is block h (c.in-Err.ensures.ended (start script) h.lines h.stands)
    c.tell_end.ensures in
    record {
      front = ended_front begun script _ c.tell_end.result ended;
      done = tt;
      undetected = ended_whole begun script _ c.tell_end.result ended;
      write_fault = ended_until begun script _ c.tell_end.result ended;
    }

pub returns-then-failed : goal.returns-then-failed
returns-then-failed g c =
    let script = c.args.script.now.lines.items in
    let begun = c.args.writer.now in
    let h = c.loop-numbered.invariant in
    let is = item_of script _ c.loop-numbered.numbered-index c.numbered-item.result
    c.deref-numbered-items.ensures.value c.numbered-item.is c.loop-numbered-test.true in
    let block = sym c.is_event.ensures ∙ c.if-is_event.true in
    let until = Going-until begun script _ c.numbered-item.result _ _ _ _ _ is block h
    (sym c.failed.ensures ∙ c.if-failed.true)
    (c.in_default.ensures.done (start script) h.lines h.stands) in
    record {
      front = until_front begun script _ until;
      done = tt;
      undetected = λ line port event is. absurd cc;
      write_fault = λ is. until;
    }

pub loop-numbered-init : goal.loop-numbered-init
loop-numbered-init g c = Going-begin c.args.writer.now c.args.script.now.lines.items
    c.args.fabric.now c.requires.fine c.requires.stands

pub loop-numbered-preserved : goal.loop-numbered-preserved
loop-numbered-preserved g c =
    let script = c.args.script.now.lines.items in
    let begun = c.args.writer.now in
    let h = c.loop-numbered.invariant in
    let is = item_of script _ c.loop-numbered.numbered-index c.numbered-item.result
    c.deref-numbered-items.ensures.value c.numbered-item.is c.loop-numbered-test.true in
    elim c.if-is_event.branch [
      | then-is_event+in_default+else-failed w ↦ rw (w.writer-is, w.fabric-is)
          (Going-event begun script _ c.numbered-item.result _ _ _ _ _ is
          (sym c.is_event.ensures ∙ w.if-is_event.true) h
          (sym w.failed.ensures ∙ w.if-failed.false)
          (w.in_default.ensures.done (start script) h.lines h.stands))
      | else-is_event w ↦ rw (w.writer-is, w.fabric-is)
          (Going-skip begun script _ c.numbered-item.result _ _ is
          (sym c.is_event.ensures ∙ w.if-is_event.false) h)
    ]

pub returns : goal.returns
returns g c =
    let script = c.args.script.now.lines.items in
    let begun = c.args.writer.now in
    let all : length script ≤ c.loop-numbered.numbered-index =
    omega (arith, ap length c.deref-numbered-items.ensures.value, c.loop-numbered-test.false) in
    let whole = Going-end begun script c.loop-numbered.numbered-index _ _ _ all
    c.loop-numbered.invariant c.write_end.ensures in
    record {
      front = whole_front begun script _ Ended None whole;
      done = whole;
      undetected = λ line port event is. absurd cc;
      write_fault = λ is. absurd cc;
    }
