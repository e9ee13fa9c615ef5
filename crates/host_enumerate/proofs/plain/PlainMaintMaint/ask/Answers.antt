use Rattle.host_enumerate.proofs.Prelude.{◌≡◌, ◌∙◌, sym, ap, PortRef, port_at, same_Some, after_access, topology_of, registers_of}
use Rattle.host_enumerate.proofs.Accessed.{accessed-registers, accessed-topology, accessed-whole}
use Rattle.host_enumerate.proofs.PlainWalks.{walk-inside}
use Rattle.host_enumerate.proofs.plain.PlainMaintMaint.ask.Goals as goal

pub returns-clause-registers : goal.returns-clause-registers
returns-clause-registers c at is =
    accessed-registers c.args.self.now.devices.items c.args.self.now.links.items
    c.args.self.now.host c.in-Some.at c.args.access c.index_mut.result.now c.respond.new.device
    (walk-inside (topology_of c.args.self.now.devices.items c.args.self.now.links.items
    c.args.self.now.host) (registers_of c.args.self.now.devices.items) c.args.dest c.args.hops
    (port_at c.args.self.now.host 0) c.in-Some.at c.requires.whole.0
    (sym c.walk.ensures ∙ c.in-Some.is))
    c.index_mut.ensures.value c.respond.ensures.becomes c.respond.ensures.same
    c.respond.ensures.device c.respond.ensures.id c.respond.ensures.lock
    ∙ same
  where
    same : after_access (registers_of c.args.self.now.devices.items) c.in-Some.at c.args.access
        ≡ after_access (registers_of c.args.self.now.devices.items) at c.args.access
    same = ap (λ (p : PortRef). after_access (registers_of c.args.self.now.devices.items) p
        c.args.access)
        (same_Some c.in-Some.at at (sym (sym c.walk.ensures ∙ c.in-Some.is) ∙ is.ends))

pub returns-clause-topology : goal.returns-clause-topology
returns-clause-topology c =
    accessed-topology c.args.self.now.devices.items c.args.self.now.links.items
    c.args.self.now.host c.in-Some.at c.args.access c.index_mut.result.now c.respond.new.device
    (walk-inside (topology_of c.args.self.now.devices.items c.args.self.now.links.items
    c.args.self.now.host) (registers_of c.args.self.now.devices.items) c.args.dest c.args.hops
    (port_at c.args.self.now.host 0) c.in-Some.at c.requires.whole.0
    (sym c.walk.ensures ∙ c.in-Some.is))
    c.index_mut.ensures.value c.respond.ensures.becomes c.respond.ensures.same
    c.respond.ensures.device c.respond.ensures.id c.respond.ensures.lock

pub returns-clause-whole : goal.returns-clause-whole
returns-clause-whole c =
    let still = accessed-whole c.args.self.now.devices.items c.args.self.now.links.items
    c.args.self.now.host c.in-Some.at c.args.access c.index_mut.result.now c.respond.new.device
    (walk-inside (topology_of c.args.self.now.devices.items c.args.self.now.links.items
    c.args.self.now.host) (registers_of c.args.self.now.devices.items) c.args.dest c.args.hops
    (port_at c.args.self.now.host 0) c.in-Some.at c.requires.whole.0
    (sym c.walk.ensures ∙ c.in-Some.is))
    c.index_mut.ensures.value c.respond.ensures.becomes c.respond.ensures.same
    c.respond.ensures.device c.respond.ensures.id c.respond.ensures.lock
    (c.requires.whole.0, c.requires.whole.1) in
    (still.0, still.1, c.requires.whole.2)
