use Rattle.std.proofs.Common.{Ok}
use Rattle.fabric_ports.specs.Ran.{FabricRan}
use Rattle.fabric_ports.proofs.ServeLaws.{ServesFirst, held_by}
use Rattle.fabric_ports.proofs.fabric.Fabric.serve.Given as goal

abbrev pub invariant-loop : goal.invariant-loop
invariant-loop g l = FabricRan (ServesFirst l.node) l.fn.self l.fn.writer l.writer (Ok l.self)

abbrev pub decreases-loop : goal.decreases-loop
decreases-loop g l = held_by l.self l.node
