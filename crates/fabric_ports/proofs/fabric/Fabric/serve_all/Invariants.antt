use Rattle.std.proofs.Common.{take, Ok}
use Rattle.fabric_trace.specs.Rounds.{ServeNodes}
use Rattle.fabric_ports.specs.Ran.{FabricRan}
use Rattle.fabric_ports.proofs.fabric.Fabric.serve_all.Given as goal

abbrev pub invariant-loop-node : goal.invariant-loop-node
invariant-loop-node g l = FabricRan (ServeNodes 0 (take l.node l.fn.self.devices.items))
    l.fn.self l.fn.writer l.writer (Ok l.self)
