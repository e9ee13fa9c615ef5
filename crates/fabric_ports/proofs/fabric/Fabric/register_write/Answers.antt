use Rattle.std.proofs.Common.{Some, sym, subst, ap, ◌∙◌}
use Rattle.maint_registers.specs.Devices.{Registers}
use Rattle.fabric_ports.specs.OwnRegisters.{OwnWritten}
use Rattle.fabric_ports.proofs.ChangedLaws.{with_registers}
use Rattle.fabric_ports.proofs.OwnLaws.{endpoint_at, own_is, own_written}
use Rattle.fabric_ports.proofs.fabric.Fabric.register_write.Goals as goal

pub returns : goal.returns
returns c = λ from lines device stands known.
    let read = c.index_mut.result.now in
    let same = own_is stands known c.from.ensures c.index_mut.ensures.value in
    subst (λ (d : Registers). OwnWritten c.args.node d c.args.offset c.args.value from lines
    c.args.self.now (with_registers c.args.self.now c.from.result c.write.new.self) c.write.result)
    same
    (own_written from lines c.args.self.now c.args.node c.from.result read c.write.new.self
    c.args.offset c.args.value stands (known ∙ ap Some (sym same)) c.from.ensures
    c.ranges.value.fits c.write.ensures.becomes c.write.ensures.device
    (endpoint_at c.requires.endpoint) c.write.result c.write.ensures.exact)
