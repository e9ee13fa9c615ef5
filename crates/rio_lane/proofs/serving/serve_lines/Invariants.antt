use Rattle.std.proofs.Common.{◌≡◌, ◌-◌, false, []}
use Rattle.rio_lane.proofs.LineLaws.{LanesServed}
use Rattle.rio_lane.proofs.serving.serve_lines.Given as goal

abbrev pub invariant-loop-count : goal.invariant-loop-count
invariant-loop-count g l = record {
  served : LanesServed l.task l.commas l.initial.outbox l.outbox l.initial.ends l.ends
      (g.S.Source.left l.initial.source) (g.S.Source.left l.source) l.input l.count
      (g.S.Source.faults l.initial.source) (g.S.Source.faults l.source);
  same : l.outbox.sink ≡ l.initial.outbox.sink;
  fine : l.outbox.failed ≡ false;
  empty : l.outbox.waiting ≡ [];
}

abbrev pub decreases-loop-count : goal.decreases-loop-count
decreases-loop-count g l = 4294967295 - l.count
