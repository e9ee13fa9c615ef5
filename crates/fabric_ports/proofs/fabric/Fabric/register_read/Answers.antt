use Rattle.std.proofs.Common.{ap, ◌∙◌}
use Rattle.maint_registers.specs.Access.{value_at}
use Rattle.maint_registers.specs.Devices.{Registers}
use Rattle.fabric_ports.proofs.OwnLaws.{own_is}
use Rattle.fabric_ports.proofs.fabric.Fabric.register_read.Goals as goal

pub returns : goal.returns
returns c = λ from lines device stands known.
    c.read.ensures
    ∙ ap (λ (d : Registers). value_at d c.args.offset 0) (own_is stands known c.from.ensures
    c.index.ensures)
