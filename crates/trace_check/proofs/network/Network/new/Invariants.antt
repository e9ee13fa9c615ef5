use Rattle.std.proofs.Common.{take}
use Rattle.fabric_trace.specs.Runs.{bare, set_up_all}
use Rattle.trace_check.specs.Starting.{IsBuilt}
use Rattle.trace_check.proofs.network.Network.new.Given as goal

abbrev pub invariant-loop-numbered : goal.invariant-loop-numbered
invariant-loop-numbered l =
    IsBuilt (set_up_all bare (take l.numbered-index l.fn.set_up.lines)) l.network
