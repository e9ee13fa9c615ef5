use Rattle.std.proofs.Common.{◌≡◌, ◌+◌, ◌-◌, ◌^◌, refl, sym, ◌∙◌, arith}
use Rattle.live_fabric.specs.declared.answers.AfterLine.TheVariants as Goings
use Rattle.live_fabric.specs.Sessions.{SessionHeld, SessionHolds, SessionAnswered}
use Rattle.rio_live.proofs.ServingLaws.{as_ok, Course-begin, Course-line}
use Rattle.rio_live.proofs.EndingLaws.{Course-closed, Course-done}
use Rattle.rio_live.proofs.FailingLaws.{Course-undetected, Course-no_memory, Course-failed}
use Rattle.rio_live.proofs.serving.serve_lines.Goals as goal

pub loop-number-init : goal.loop-number-init
loop-number-init g c = record {
  course =
      Course-begin c.args.outbox.now
      (g.S.Source.left c.args.source.now) (g.S.Source.faults c.args.source.now) c.args.session.now
      c.args.input.now c.requires.holds c.requires.input;
  same = refl;
  fine = c.requires.fine;
  empty = c.requires.empty;
}

pub returns-in-Err-clause-serves : goal.returns-in-Err-clause-serves
returns-in-Err-clause-serves g c =
    let h = c.loop-number.invariant in
    let stop = c.in-Err.ensures.stops in
    Course-closed c.args.outbox.now
    (g.S.Source.left c.args.source.now) (g.S.Source.faults c.args.source.now)
    c.end_lines.new.outbox c.loop-number.input stop.0 (g.S.Source.faults c.loop-number.source)
    (g.S.Source.faults c.read_line.new.source) c.in-Err.end c.end_lines.result h.course
    c.requires.empty c.requires.fine h.fine h.empty stop.1 stop.2 c.end_lines.ensures.stopped

pub returns-then-failed-clause-serves : goal.returns-then-failed-clause-serves
returns-then-failed-clause-serves g c =
    let h = c.loop-number.invariant in
    let read = c.in_default.ensures.read in
    let answered = rw c.as_slice.ensures.value at c.answer_line-answered.ensures.answered in
    let breaks = rw c.as_slice.ensures.value at c.answer_line-answered.ensures.breaks in
    Course-failed c.args.outbox.now
    (g.S.Source.left c.args.source.now) (g.S.Source.faults c.args.source.now)
    c.answer_line-answered.new.outbox c.answer_line-answered.new.session
    c.loop-number.input c.read_line.new.self c.read_line.new.line.items read.0
    (g.S.Source.faults c.loop-number.source) (g.S.Source.faults c.read_line.new.source)
    c.answer_line-answered.result h.course c.requires.empty c.requires.fine
    (sym c.failed.ensures ∙ c.if-failed.true) read.1 read.2 c.in_default.ensures.line
    c.in_default.ensures.counts answered breaks

pub loop-number-preserved : goal.loop-number-preserved
loop-number-preserved g c =
    let h = c.loop-number.invariant in
    let read = c.in_default.ensures.read in
    let answered =
    as_ok
    (λ going. (t : SessionHeld) → SessionHolds c.loop-number.session t
    → SessionAnswered t (c.loop-number.number + 1)
    c.read_line.new.line.items c.loop-number.outbox c.answer_line-answered.new.outbox
    c.answer_line-answered.new.session going)
    c.answer_line-answered.result c.in-Ok-On.field-0 Goings.On c.in-Ok-On.is
    (rw c.in-Ok-On.is at c.in-Ok-On.field-0-is)
    (rw c.as_slice.ensures.value at c.answer_line-answered.ensures.answered) in
    record {
      course =
          Course-line c.args.outbox.now
          (g.S.Source.left c.args.source.now) (g.S.Source.faults c.args.source.now)
          c.loop-number.input c.read_line.new.self c.read_line.new.line.items read.0
          (g.S.Source.faults c.loop-number.source) (g.S.Source.faults c.read_line.new.source)
          h.course read.1 read.2 c.in_default.ensures.line c.in_default.ensures.counts
          (answered h.course.held h.course.holds);
      same = c.answer_line-answered.ensures.same ∙ h.same;
      fine = sym c.failed.ensures ∙ c.if-failed.false;
      empty = c.answer_line-answered.ensures.empty;
    }

pub returns-in-Ok-Undetected-clause-serves : goal.returns-in-Ok-Undetected-clause-serves
returns-in-Ok-Undetected-clause-serves g c =
    let h = c.loop-number.invariant in
    let read = c.in_default.ensures.read in
    let answered =
    as_ok
    (λ going. (t : SessionHeld) → SessionHolds c.loop-number.session t
    → SessionAnswered t (c.loop-number.number + 1)
    c.read_line.new.line.items c.loop-number.outbox c.answer_line-answered.new.outbox
    c.answer_line-answered.new.session going)
    c.answer_line-answered.result c.in-Ok-Undetected.field-0 Goings.Undetected c.in-Ok-Undetected.is
    (rw c.in-Ok-Undetected.is at c.in-Ok-Undetected.field-0-is)
    (rw c.as_slice.ensures.value at c.answer_line-answered.ensures.answered) in
    Course-undetected c.args.outbox.now
    (g.S.Source.left c.args.source.now) (g.S.Source.faults c.args.source.now)
    c.loop-number.input c.read_line.new.self c.read_line.new.line.items read.0
    (g.S.Source.faults c.loop-number.source) (g.S.Source.faults c.read_line.new.source)
    h.course c.requires.empty (sym c.failed.ensures ∙ c.if-failed.false)
    c.answer_line-answered.ensures.empty read.1 read.2 c.in_default.ensures.line
    c.in_default.ensures.counts (answered h.course.held h.course.holds)

pub returns-in-Err-answered-clause-serves : goal.returns-in-Err-answered-clause-serves
returns-in-Err-answered-clause-serves g c =
    let h = c.loop-number.invariant in
    let read = c.in_default.ensures.read in
    let breaks = rw c.as_slice.ensures.value at c.in-Err-answered.ensures.breaks in
    Course-no_memory c.args.outbox.now
    (g.S.Source.left c.args.source.now) (g.S.Source.faults c.args.source.now)
    c.loop-number.input c.read_line.new.self c.read_line.new.line.items read.0
    (g.S.Source.faults c.loop-number.source) (g.S.Source.faults c.read_line.new.source)
    h.course c.requires.empty (sym c.failed.ensures ∙ c.if-failed.false)
    c.answer_line-answered.ensures.empty read.1 read.2 c.in_default.ensures.line
    c.in_default.ensures.counts (breaks h.course.held h.course.holds)

pub returns-clause-serves : goal.returns-clause-serves
returns-clause-serves g c =
    let h = c.loop-number.invariant in
    let all : c.loop-number.number ≡ 2 ^ 32 - 1 = omega arith in
    Course-done c.args.outbox.now
    (g.S.Source.left c.args.source.now) (g.S.Source.faults c.args.source.now)
    c.loop-number.input (g.S.Source.faults c.loop-number.source) c.end_trace.result h.course
    c.requires.empty c.requires.fine c.end_trace.ensures.empty all c.end_trace.ensures.written
    c.end_trace.ensures.status
