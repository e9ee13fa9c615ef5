use Rattle.std.proofs.Common.{map, drop}
use Rattle.fabric_script.specs.declared.lines.Line.TheVariants.{Collect}
use Rattle.live_fabric.specs.Course.{EventsCourse}
use Rattle.live_fabric.specs.Holding.{LiveHolds, MayCollect}
use Rattle.live_fabric.specs.Lines.{Taken}
use Rattle.live_fabric.proofs.carrying.collect_all.Given as goal

abbrev pub invariant-loop-node : goal.invariant-loop-node
invariant-loop-node g l = record {
  course : (taken : Taken) → LiveHolds l.fn.live taken → MayCollect taken l.fn.nodes
      → EventsCourse l.fn.telling.quiet taken l.fn.telling.number (map Collect l.fn.nodes)
      (map Collect (drop l.node-index l.fn.nodes)) l.fn.outbox l.outbox l.live;
}
