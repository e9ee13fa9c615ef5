use Rattle.std.proofs.Common.{◌∙◌}
use Rattle.fabric_ports.proofs.GatherLaws.{holds_is}
use Rattle.fabric_ports.proofs.NodeLaws.{port_read}
use Rattle.fabric_ports.proofs.fabric.Fabric.holds.Goals as goal

pub returns : goal.returns
returns c = λ s shows.
    c.holds_packet.ensures ∙ holds_is s c.args.node (port_read shows
    c.requires.endpoint c.place-place.ensures.place c.index.ensures)
