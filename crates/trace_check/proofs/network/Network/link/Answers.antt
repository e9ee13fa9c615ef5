use Rattle.std.proofs.Common.{◌<◌, length, arith}
use Rattle.fabric_trace.specs.Settings.{linked_at}
use Rattle.maint_registers.proofs.ChangeLaws.{changed_at}
use Rattle.trace_check.proofs.network.Network.link.Goals as goal

pub returns-clause-registers : goal.returns-clause-registers
returns-clause-registers c =
    let devices = c.args.self.now.registers.items in
    let port = c.args.port in
    let there = c.requires.node in
    let at = c.from.ensures in
    let within : c.from.result < length devices = grind (arith, there, at) in
    changed_at devices port.node c.from.result c.index_mut.result.now c.set_linked.new.self
    (linked_at port.port) at within c.index_mut.ensures.value c.set_linked.ensures
