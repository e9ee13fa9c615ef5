use Rattle.std.proofs.Common.{sym, subst}
use Rattle.fabric_ports.specs.Places.{IsPortOf}
use Rattle.fabric_ports.proofs.PlanLaws.{told_port}
use Rattle.fabric_ports.proofs.plans.Plan.add_cable.Goals as goal

pub set_linked-requires-2 : goal.set_linked-requires-2
set_linked-requires-2 c =
    subst (λ devices. IsPortOf devices c.args.b) (sym c.set_linked.ensures.devices)
    (told_port c.args.self.now.devices.items c.args.a c.args.b c.requires.second)
