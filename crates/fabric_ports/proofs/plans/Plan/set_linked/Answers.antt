use Rattle.std.proofs.Common.{◌<◌, length, arith}
use Rattle.maint_registers.proofs.ChangeLaws.{changed_at}
use Rattle.fabric_ports.proofs.PlanLaws.{linked_at}
use Rattle.fabric_ports.proofs.Rows.{has_node}
use Rattle.fabric_ports.proofs.plans.Plan.set_linked.Goals as goal

pub returns-clause-devices : goal.returns-clause-devices
returns-clause-devices c =
    let devices = c.args.self.now.devices.items in
    let port = c.args.port in
    let there = has_node devices port.node port.port c.requires in
    let at = c.from.ensures in
    let within : c.from.result < length devices = grind (arith, there, at) in
    changed_at devices port.node c.from.result c.index_mut.result.now c.tell_link.new.device
    (linked_at port.port) at within c.index_mut.ensures.value c.tell_link.ensures
