use Rattle.std.proofs.Common.{◌≡◌, ◌-◌, false, []}
use Rattle.rio_port.specs.Logs.{AddsLog}
use Rattle.rio_port.proofs.ServingLaws.{Served}
use Rattle.rio_port.proofs.serving.serve_lines.Given as goal

abbrev pub invariant-loop-count : goal.invariant-loop-count
invariant-loop-count g l = record {
  served : Served l.initial.outbox l.outbox l.initial.port l.port
      (g.S.Source.left l.initial.source) (g.S.Source.left l.source) l.input l.count
      (g.S.Source.faults l.initial.source) (g.S.Source.faults l.source);
  same : l.outbox.sink ≡ l.initial.outbox.sink;
  fine : l.outbox.failed ≡ false;
  empty : l.outbox.waiting ≡ [];
  logs : AddsLog l.initial.log.is_asked (g.M.Sink.written l.initial.messages)
      (g.M.Sink.faults l.initial.messages) l.initial.log.failed (g.M.Sink.written l.messages)
      (g.M.Sink.faults l.messages) l.log.failed;
  asked : l.log.is_asked ≡ l.initial.log.is_asked;
}

abbrev pub decreases-loop-count : goal.decreases-loop-count
decreases-loop-count g l = 18446744073709551615 - l.count
