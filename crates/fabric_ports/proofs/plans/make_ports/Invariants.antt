use Rattle.std.proofs.Common.{◌≡◌, map, take}
use Rattle.fabric_ports.specs.Plans.{planned_port}
use Rattle.fabric_ports.proofs.plans.make_ports.Given as goal

abbrev pub invariant-loop-plan : goal.invariant-loop-plan
invariant-loop-plan l = l.ports.items ≡ map planned_port (take l.plan-index l.plans)
