use Rattle.fabric_script.specs.Ports.{port_at}
use Rattle.host_enumerate.proofs.Accessed.{accessed-registers, accessed-topology, accessed-whole}
use Rattle.host_enumerate.proofs.plain.PlainMaintMaint.own.Goals as goal

pub returns-clause-registers : goal.returns-clause-registers
returns-clause-registers c =
    accessed-registers c.args.self.now.devices.items c.args.self.now.links.items
    c.args.self.now.host (port_at c.args.self.now.host 0) c.args.access
    c.index_mut.result.now c.respond.new.device c.requires.whole.0.host
    c.index_mut.ensures.value c.respond.ensures.becomes
    c.respond.ensures.same c.respond.ensures.device c.respond.ensures.id c.respond.ensures.lock

pub returns-clause-topology : goal.returns-clause-topology
returns-clause-topology c =
    accessed-topology c.args.self.now.devices.items c.args.self.now.links.items
    c.args.self.now.host (port_at c.args.self.now.host 0) c.args.access
    c.index_mut.result.now c.respond.new.device c.requires.whole.0.host
    c.index_mut.ensures.value c.respond.ensures.becomes
    c.respond.ensures.same c.respond.ensures.device c.respond.ensures.id c.respond.ensures.lock

pub returns-clause-whole : goal.returns-clause-whole
returns-clause-whole c =
    let still = accessed-whole c.args.self.now.devices.items c.args.self.now.links.items
    c.args.self.now.host (port_at c.args.self.now.host 0) c.args.access
    c.index_mut.result.now c.respond.new.device c.requires.whole.0.host
    c.index_mut.ensures.value c.respond.ensures.becomes
    c.respond.ensures.same c.respond.ensures.device c.respond.ensures.id c.respond.ensures.lock
    (c.requires.whole.0, c.requires.whole.1) in
    (still.0, still.1, c.requires.whole.2)
