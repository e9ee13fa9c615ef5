use Rattle.std.proofs.Common.{◌≡◌, ◌-◌, ◌^◌, ◌++◌, refl, sym, ◌∙◌, subst, arith}
use Rattle.live_lines.specs.Lines.{with_feed}
use Rattle.live_lines.proofs.ServingLaws.{Going-stops, Going-done, Going-no_memory, Going-fault}
use Rattle.rio_lane.specs.LaneLines.{AnswersLane}
use Rattle.rio_lane.proofs.LineLaws.{LanesServed-begin, LanesServed-line, LanesServed-read}
use Rattle.rio_lane.proofs.serving.serve_lines.Goals as goal

pub loop-count-init : goal.loop-count-init
loop-count-init g c = record {
  served =
      LanesServed-begin c.args.task c.args.commas c.args.outbox.now c.args.ends.now
      (g.S.Source.left c.args.source.now)
      (g.S.Source.faults c.args.source.now) c.args.input.now c.requires.input;
  same = refl;
  fine = c.requires.fine;
  empty = c.requires.empty;
}

pub returns-in-Err-clause-serves : goal.returns-in-Err-clause-serves
returns-in-Err-clause-serves g c =
    let h = c.loop-count.invariant in
    let stop = c.in-Err.ensures.stops in
    rw c.from.ensures record {
      lines = h.served.lines;
      answer = h.served.answer;
      answers = h.served.answers;
      serves =
          Going-stops c.args.outbox.now
          (g.S.Source.left c.args.source.now) (g.S.Source.faults c.args.source.now) (2 ^ 32 - 1)
          c.loop-count.input stop.0 (g.S.Source.faults c.loop-count.source)
          (g.S.Source.faults c.read_line.new.source) c.in-Err.end h.served.lines
          h.served.answer.text h.served.going c.requires.empty h.fine h.empty stop.1 stop.2;
    }

pub returns-in_default-tell_line-clause-serves : goal.returns-in_default-tell_line-clause-serves
returns-in_default-tell_line-clause-serves g c =
    let h = c.loop-count.invariant in
    let read = c.in_default.ensures.read in
    let now =
    LanesServed-read c.args.task c.args.commas c.args.outbox.now c.args.ends.now
    (g.S.Source.left c.args.source.now) (g.S.Source.faults c.args.source.now) c.loop-count.input
    read.0 (with_feed c.read_line.new.line.items ++ c.read_line.new.self)
    (g.S.Source.faults c.loop-count.source) (g.S.Source.faults c.read_line.new.source)
    h.served read.1 read.2 c.in_default.ensures.counts in
    rw c.in_default-tell_line.ensures.outbox record {
      lines = now.lines;
      answer = now.answer;
      answers = now.answers;
      serves =
          Going-no_memory c.args.outbox.now
          (g.S.Source.left c.args.source.now) (g.S.Source.faults c.args.source.now) (2 ^ 32 - 1)
          (with_feed c.read_line.new.line.items ++ c.read_line.new.self)
          (g.S.Source.faults c.read_line.new.source) now.lines now.answer.text now.going
          c.requires.empty h.fine h.empty;
    }

pub returns-then-failed-clause-serves : goal.returns-then-failed-clause-serves
returns-then-failed-clause-serves g c =
    let h = c.loop-count.invariant in
    let read = c.in_default.ensures.read in
    let line = c.read_line.new.line.items in
    let given = c.in-Ok.ensures.answer in
    let now =
    LanesServed-line c.args.task c.args.commas c.args.outbox.now c.args.ends.now
    (g.S.Source.left c.args.source.now)
    (g.S.Source.faults c.args.source.now) c.loop-count.input c.read_line.new.self line read.0
    (g.S.Source.faults c.loop-count.source) (g.S.Source.faults c.read_line.new.source) given.0
    h.served read.1 read.2 c.in_default.ensures.line
    (subst (λ text. AnswersLane c.args.task c.args.commas c.loop-count.ends text given.0)
    c.as_slice.ensures.value given.1)
    given.2 given.3 c.flush.ensures.written c.in_default.ensures.counts in
    record {
      lines = now.lines;
      answer = now.answer;
      answers = now.answers;
      serves =
          Going-fault c.args.outbox.now
          (g.S.Source.left c.args.source.now) (g.S.Source.faults c.args.source.now) (2 ^ 32 - 1)
          c.read_line.new.self (g.S.Source.faults c.read_line.new.source) now.lines
          now.answer.text now.going c.requires.empty c.requires.fine
          (sym c.failed.ensures ∙ c.if-failed.true);
    }

pub loop-count-preserved : goal.loop-count-preserved
loop-count-preserved g c =
    let h = c.loop-count.invariant in
    let read = c.in_default.ensures.read in
    let line = c.read_line.new.line.items in
    let given = c.in-Ok.ensures.answer in
    record {
      served =
          LanesServed-line c.args.task c.args.commas c.args.outbox.now c.args.ends.now
          (g.S.Source.left c.args.source.now)
          (g.S.Source.faults c.args.source.now) c.loop-count.input c.read_line.new.self line read.0
          (g.S.Source.faults c.loop-count.source) (g.S.Source.faults c.read_line.new.source) given.0
          h.served read.1 read.2 c.in_default.ensures.line
          (subst (λ text. AnswersLane c.args.task c.args.commas c.loop-count.ends text given.0)
          c.as_slice.ensures.value given.1)
          given.2 given.3 c.flush.ensures.written c.in_default.ensures.counts;
      same = c.flush.ensures.written.same ∙ given.3.same ∙ h.same;
      fine = sym c.failed.ensures ∙ c.if-failed.false;
      empty = c.flush.ensures.empty;
    }

pub returns-clause-serves : goal.returns-clause-serves
returns-clause-serves g c =
    let h = c.loop-count.invariant in
    let all : c.loop-count.count ≡ 2 ^ 32 - 1 = omega arith in
    record {
      lines = h.served.lines;
      answer = h.served.answer;
      answers = h.served.answers;
      serves =
          Going-done c.args.outbox.now
          (g.S.Source.left c.args.source.now) (g.S.Source.faults c.args.source.now) (2 ^ 32 - 1)
          c.loop-count.input (g.S.Source.faults c.loop-count.source) h.served.lines
          h.served.answer.text h.served.going c.requires.empty h.fine h.empty all;
    }
