use Rattle.std.proofs.Common.{◌≡◌, ◌-◌, false, []}
use Rattle.rio_live.proofs.ServingLaws.{Course}
use Rattle.rio_live.proofs.serving.serve_lines.Given as goal

abbrev pub invariant-loop-number : goal.invariant-loop-number
invariant-loop-number g l = record {
  course : Course l.initial.outbox l.outbox l.session
      (g.S.Source.left l.initial.source) (g.S.Source.left l.source) l.input l.number
      (g.S.Source.faults l.initial.source) (g.S.Source.faults l.source);
  same : l.outbox.sink ≡ l.initial.outbox.sink;
  fine : l.outbox.failed ≡ false;
  empty : l.outbox.waiting ≡ [];
}

abbrev pub decreases-loop-number : goal.decreases-loop-number
decreases-loop-number g l = 4294967295 - l.number
