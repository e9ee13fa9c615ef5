use Rattle.std.proofs.Common.{Ok}
use Rattle.fabric_trace.specs.Blocks.{IsSettle}
use Rattle.fabric_trace.specs.Rounds.{Rounds}
use Rattle.fabric_ports.specs.Ran.{FabricRan}
use Rattle.fabric_ports.proofs.fabric.Fabric.run.Given as goal

abbrev pub invariant-loop : goal.invariant-loop
invariant-loop g l = FabricRan (Rounds IsSettle l.counter)
    l.fn.self l.fn.writer l.writer (Ok l.self)
