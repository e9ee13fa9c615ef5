use Rattle.std.proofs.Common.{◌≡◌, ◌-◌, ◌^◌, ◌++◌, ◌∷◌, [], Err, length-append, refl, sym, ap, ◌∙◌, subst, arith}
use Rattle.trace_check.specs.Taken.{HasTakenLines, IsHitIn}
use Rattle.trace_check.specs.Told.{IsToldIn}
use Rattle.follow_lines.proofs.TracingLaws.{Following-begin, Following-line, Following-ends, Following-hit, Following-fault, Following-many}
use Rattle.follow_lines.proofs.tracing.follow_trace.Goals as goal

pub loop-alloc-init : goal.loop-alloc-init
loop-alloc-init g c = record {
  following =
      Following-begin c.args.tell c.args.outbox.now c.args.checker.now c.args.input.now
      (g.S.Source.left c.args.source.now) (g.S.Source.faults c.args.source.now) c.requires.taken;
  same = refl;
  fine = c.requires.fine;
  empty = c.requires.empty;
}

pub returns-in-Err-clause-follows : goal.returns-in-Err-clause-follows
returns-in-Err-clause-follows g c =
    let h = c.loop-alloc.invariant in
    let stop = c.in-Err.ensures.stops in
    Following-ends c.args.checker.now.set_up c.args.before c.args.tell c.args.outbox.now
    c.args.input.now (g.S.Source.left c.args.source.now) (g.S.Source.faults c.args.source.now)
    stop.0 c.in-Err.end c.end_lines.result c.end_lines.new.checker.expected h.following stop.1
    stop.2 h.fine h.empty
    c.end_lines.ensures

pub returns-in-Err-take_line-clause-follows : goal.returns-in-Err-take_line-clause-follows
returns-in-Err-take_line-clause-follows g c =
    let h = c.loop-alloc.invariant in
    let read = c.in_default.ensures.read in
    rw c.check_end.ensures (Following-hit c.args.checker.now.set_up c.args.before c.args.tell
    c.args.outbox.now c.args.input.now (g.S.Source.left c.args.source.now)
    (g.S.Source.faults c.args.source.now) c.read_line.new.self c.read_line.new.line.items read.0
    c.in-Err-take_line.end c.take_line.new.checker.expected h.following read.1 read.2
    c.in_default.ensures.line
    c.in_default.ensures.counts h.fine h.empty
    (λ refusal same. c.in-Err-take_line.ensures.never_refused refusal (ap (λ e. Err e) same))
    (λ hit same texts has.
    subst (λ t. IsHitIn c.loop-alloc.checker.set_up (texts ++ t ∷ []) hit)
    c.as_slice.ensures.value
    (c.in-Err-take_line.ensures.unlawful hit (ap (λ e. Err e) same) texts has))
    (λ hit same texts has.
    subst (λ t. IsToldIn c.loop-alloc.checker.set_up (texts ++ t ∷ []) hit
    c.take_line.new.checker.expected) c.as_slice.ensures.value
    (c.in-Err-take_line.ensures.told hit (ap (λ e. Err e) same) texts has)))

pub returns-then-failed-clause-follows : goal.returns-then-failed-clause-follows
returns-then-failed-clause-follows g c =
    let h = c.loop-alloc.invariant in
    let read = c.in_default.ensures.read in
    Following-fault c.args.checker.now.set_up c.args.before c.args.tell c.args.outbox.now
    c.args.input.now (g.S.Source.left c.args.source.now) (g.S.Source.faults c.args.source.now)
    c.take_line.new.checker.expected
    (Following-line c.args.checker.now.set_up c.args.before c.args.tell c.args.outbox.now
    c.args.input.now (g.S.Source.left c.args.source.now) (g.S.Source.faults c.args.source.now)
    c.tell_ok.new.outbox c.take_line.new.checker c.read_line.new.self
    c.read_line.new.line.items read.0 h.following read.1 read.2 c.in_default.ensures.line
    c.in_default.ensures.counts
    c.take_line.ensures.set_up
    (λ texts has. subst (λ t. HasTakenLines (texts ++ t ∷ []) c.take_line.new.checker)
    c.as_slice.ensures.value (c.in_default-take_line.ensures.lawful texts has))
    c.tell_ok.ensures.told)
    (sym c.failed.ensures ∙ c.if-failed.true)

pub loop-alloc-preserved : goal.loop-alloc-preserved
loop-alloc-preserved g c =
    let h = c.loop-alloc.invariant in
    let read = c.in_default.ensures.read in
    record {
      following =
          Following-line c.args.checker.now.set_up c.args.before c.args.tell c.args.outbox.now
          c.args.input.now (g.S.Source.left c.args.source.now)
          (g.S.Source.faults c.args.source.now) c.tell_ok.new.outbox c.take_line.new.checker
          c.read_line.new.self c.read_line.new.line.items read.0 h.following read.1 read.2
          c.in_default.ensures.line c.in_default.ensures.counts c.take_line.ensures.set_up
          (λ texts has. subst (λ t. HasTakenLines (texts ++ t ∷ []) c.take_line.new.checker)
          c.as_slice.ensures.value (c.in_default-take_line.ensures.lawful texts has))
          c.tell_ok.ensures.told;
      same = c.tell_ok.ensures.told.same ∙ h.same;
      fine = sym c.failed.ensures ∙ c.if-failed.false;
      empty = c.tell_ok.ensures.empty;
    }

pub loop-alloc-smaller : goal.loop-alloc-smaller
loop-alloc-smaller g c =
    let h = c.loop-alloc.invariant.following in
    let now = h.has.count in
    let next = (c.in_default-take_line.ensures.lawful h.texts h.has).count in
    let longer = length-append h.texts (c.as_slice.result.now ∷ []) in
    omega (arith, now, next, longer)

pub returns-clause-follows : goal.returns-clause-follows
returns-clause-follows g c =
    let h = c.loop-alloc.invariant in
    let all : c.loop-alloc.checker.lines ≡ 2 ^ 32 - 1 = omega arith in
    Following-many c.args.checker.now.set_up c.args.before c.args.tell c.args.outbox.now
    c.args.input.now (g.S.Source.left c.args.source.now) (g.S.Source.faults c.args.source.now)
    c.loop-alloc.checker.expected h.following all h.fine h.empty
