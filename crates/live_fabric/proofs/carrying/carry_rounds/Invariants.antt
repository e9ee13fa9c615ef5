use Rattle.std.proofs.Common.{◌-◌}
use Rattle.live_fabric.specs.Course.{EventsCourse}
use Rattle.live_fabric.specs.Holding.{LiveHolds, MayCollect}
use Rattle.live_fabric.specs.Lines.{Taken}
use Rattle.live_fabric.specs.Served.{round_events, rounds}
use Rattle.live_fabric.proofs.carrying.carry_rounds.Given as goal

abbrev pub invariant-loop : goal.invariant-loop
invariant-loop g l = record {
  course : (taken : Taken) → LiveHolds l.fn.live taken → MayCollect taken l.fn.nodes
      → EventsCourse l.fn.telling.quiet taken l.fn.telling.number
      (rounds l.fn.count (round_events l.fn.nodes))
      (rounds (l.fn.count - l.counter) (round_events l.fn.nodes)) l.fn.outbox l.outbox l.live;
}
