use Rattle.std.proofs.Common.{Ok}
use Rattle.fabric_ports.specs.Ran.{FabricRan}
use Rattle.fabric_ports.proofs.GatherLaws.{CollectsFirst, held_at}
use Rattle.fabric_ports.proofs.fabric.Fabric.collect_all.Given as goal

abbrev pub invariant-loop-self : goal.invariant-loop-self
invariant-loop-self g l = FabricRan (CollectsFirst l.node)
    l.fn.self l.fn.writer l.writer (Ok l.self)

abbrev pub decreases-loop-self : goal.decreases-loop-self
decreases-loop-self g l = held_at l.self l.node
