use Rattle.std.proofs.Common.{◌≡◌, ◌-◌, false, []}
use Rattle.follow_lines.proofs.TracingLaws.{Following}
use Rattle.follow_lines.proofs.tracing.follow_trace.Given as goal

abbrev pub invariant-loop-alloc : goal.invariant-loop-alloc
invariant-loop-alloc g l = record {
  following : Following l.initial.checker.set_up l.tell l.initial.outbox l.outbox l.checker
      l.initial.input l.input (g.S.Source.left l.initial.source) (g.S.Source.left l.source)
      (g.S.Source.faults l.initial.source) (g.S.Source.faults l.source);
  same : l.outbox.sink ≡ l.initial.outbox.sink;
  fine : l.outbox.failed ≡ false;
  empty : l.outbox.waiting ≡ [];
}

abbrev pub decreases-loop-alloc : goal.decreases-loop-alloc
decreases-loop-alloc g l = 4294967295 - l.checker.lines
