use Rattle.std.proofs.Common.{◌≡◌, ◌-◌, ◌^◌, ◌++◌, refl, sym, ◌∙◌, subst, arith}
use Rattle.live_lines.specs.Lines.{with_feed}
use Rattle.live_lines.proofs.ServingLaws.{Going-stops, Going-done, Going-no_memory, Going-fault}
use Rattle.port_lines.specs.Lines.{AnswersLine}
use Rattle.rio_port.proofs.ServingLaws.{Served-begin, Served-line, Served-read, Served-ends, end_is_sent}
use Rattle.rio_port.proofs.LogLaws.{AddsLog-none, AddsLog-then, logs_same}
use Rattle.rio_port.proofs.serving.serve_lines.Goals as goal

pub loop-count-init : goal.loop-count-init
loop-count-init g c = record {
  served =
      Served-begin c.args.outbox.now c.args.port.now (g.S.Source.left c.args.source.now)
      (g.S.Source.faults c.args.source.now) c.args.input.now c.requires.input;
  same = refl;
  fine = c.requires.fine;
  empty = c.requires.empty;
  logs = AddsLog-none _ _ _ _;
  asked = refl;
}

pub returns-in-Err-clause-serves : goal.returns-in-Err-clause-serves
returns-in-Err-clause-serves g c =
    let h = c.loop-count.invariant in
    let stop = c.in-Err.ensures.stops in
    rw c.from.ensures (Served-ends h.served (end_is_sent c.in-Err.end)
    (Going-stops c.args.outbox.now
    (g.S.Source.left c.args.source.now) (g.S.Source.faults c.args.source.now) (2 ^ 64 - 1)
    c.loop-count.input stop.0 (g.S.Source.faults c.loop-count.source)
    (g.S.Source.faults c.read_line.new.source) c.in-Err.end h.served.lines
    h.served.answer.text h.served.going c.requires.empty h.fine h.empty stop.1 stop.2))

pub returns-in_default-answer_line-clause-serves : goal.returns-in_default-answer_line-clause-serves
returns-in_default-answer_line-clause-serves g c =
    let h = c.loop-count.invariant in
    let read = c.in_default.ensures.read in
    let now =
    Served-read c.args.outbox.now c.args.port.now
    (g.S.Source.left c.args.source.now) (g.S.Source.faults c.args.source.now) c.loop-count.input
    read.0 (with_feed c.read_line.new.line.items ++ c.read_line.new.self)
    (g.S.Source.faults c.loop-count.source) (g.S.Source.faults c.read_line.new.source)
    h.served read.1 read.2 c.in_default.ensures.counts in
    rw c.in_default-answer_line.ensures.outbox (Served-ends now (λ same. absurd cc)
    (Going-no_memory c.args.outbox.now
    (g.S.Source.left c.args.source.now) (g.S.Source.faults c.args.source.now) (2 ^ 64 - 1)
    (with_feed c.read_line.new.line.items ++ c.read_line.new.self)
    (g.S.Source.faults c.read_line.new.source) now.lines now.answer.text now.going
    c.requires.empty h.fine h.empty))

pub returns-then-failed-clause-serves : goal.returns-then-failed-clause-serves
returns-then-failed-clause-serves g c =
    let h = c.loop-count.invariant in
    let read = c.in_default.ensures.read in
    let given = c.in-Ok.ensures.answer in
    let now =
    Served-line c.args.outbox.now c.args.port.now (g.S.Source.left c.args.source.now)
    (g.S.Source.faults c.args.source.now) c.loop-count.input c.read_line.new.self
    c.read_line.new.line.items read.0
    (g.S.Source.faults c.loop-count.source) (g.S.Source.faults c.read_line.new.source) given.0
    h.served read.1 read.2 c.in_default.ensures.line
    (subst (λ text. AnswersLine c.loop-count.port text given.0) c.as_slice.ensures.value given.1)
    given.2 given.3 c.in_default.ensures.counts in
    Served-ends now (λ same. absurd cc)
    (Going-fault c.args.outbox.now
    (g.S.Source.left c.args.source.now) (g.S.Source.faults c.args.source.now) (2 ^ 64 - 1)
    c.read_line.new.self (g.S.Source.faults c.read_line.new.source) now.lines
    now.answer.text now.going c.requires.empty c.requires.fine
    (sym c.failed.ensures ∙ c.if-failed.true))

pub loop-count-preserved : goal.loop-count-preserved
loop-count-preserved g c =
    let h = c.loop-count.invariant in
    let read = c.in_default.ensures.read in
    let given = c.in-Ok.ensures.answer in
    record {
      served =
          Served-line c.args.outbox.now c.args.port.now (g.S.Source.left c.args.source.now)
          (g.S.Source.faults c.args.source.now) c.loop-count.input c.read_line.new.self
          c.read_line.new.line.items read.0
          (g.S.Source.faults c.loop-count.source) (g.S.Source.faults c.read_line.new.source) given.0
          h.served read.1 read.2 c.in_default.ensures.line
          (subst (λ text. AnswersLine c.loop-count.port text given.0) c.as_slice.ensures.value
          given.1)
          given.2 given.3 c.in_default.ensures.counts;
      same = given.3.same ∙ h.same;
      fine = sym c.failed.ensures ∙ c.if-failed.false;
      empty = c.in-Ok.ensures.written;
      logs =
          AddsLog-then _ _ _ _ _ _ _ _ _ _ h.logs
          (logs_same _ _ _ _ _ _ _ _ _ h.asked refl c.answer_line.ensures.logs);
      asked = c.answer_line.ensures.asked ∙ h.asked;
    }

pub returns-clause-serves : goal.returns-clause-serves
returns-clause-serves g c =
    let h = c.loop-count.invariant in
    let all : c.loop-count.count ≡ 2 ^ 64 - 1 = omega arith in
    Served-ends h.served (λ same. absurd cc)
    (Going-done c.args.outbox.now
    (g.S.Source.left c.args.source.now) (g.S.Source.faults c.args.source.now) (2 ^ 64 - 1)
    c.loop-count.input (g.S.Source.faults c.loop-count.source) h.served.lines
    h.served.answer.text h.served.going c.requires.empty h.fine h.empty all)

pub returns-in_default-answer_line-clause-logs : goal.returns-in_default-answer_line-clause-logs
returns-in_default-answer_line-clause-logs g c =
    let h = c.loop-count.invariant in
    AddsLog-then _ _ _ _ _ _ _ _ _ _ h.logs
    (logs_same _ _ _ _ _ _ _ _ _ h.asked refl c.answer_line.ensures.logs)

pub returns-then-failed-clause-logs : goal.returns-then-failed-clause-logs
returns-then-failed-clause-logs g c =
    let h = c.loop-count.invariant in
    AddsLog-then _ _ _ _ _ _ _ _ _ _ h.logs
    (logs_same _ _ _ _ _ _ _ _ _ h.asked refl c.answer_line.ensures.logs)
