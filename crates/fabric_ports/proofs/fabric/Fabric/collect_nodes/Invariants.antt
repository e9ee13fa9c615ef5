use Rattle.std.proofs.Common.{take, Ok}
use Rattle.fabric_ask.specs.Asks.{CollectNodes}
use Rattle.fabric_ports.specs.Ran.{FabricRan}
use Rattle.fabric_ports.proofs.fabric.Fabric.collect_nodes.Given as goal

abbrev pub invariant-loop-node : goal.invariant-loop-node
invariant-loop-node g l = FabricRan (CollectNodes l.host 0 (take l.node l.fn.self.devices.items))
    l.fn.self l.fn.writer l.writer (Ok l.self)
