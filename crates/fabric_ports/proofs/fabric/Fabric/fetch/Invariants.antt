use Rattle.std.proofs.Common.{Ok}
use Rattle.fabric_ask.specs.Asks.{Unheld}
use Rattle.fabric_ports.specs.Ran.{FabricRan}
use Rattle.fabric_ports.proofs.fabric.Fabric.fetch.Given as goal

abbrev pub invariant-loop : goal.invariant-loop
invariant-loop g l = FabricRan (Unheld l.host l.counter (g.N.Noise.edits l.fn.noise)
    (g.N.Noise.edits l.noise))
    l.fn.self l.fn.writer l.writer (Ok l.self)
