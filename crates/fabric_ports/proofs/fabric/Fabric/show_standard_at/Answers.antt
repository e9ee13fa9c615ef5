use Rattle.std.proofs.Common.{arith}
use Rattle.fabric_ports.proofs.StandardLaws.{device_there, standard_stands}
use Rattle.fabric_ports.proofs.fabric.Fabric.show_standard_at.Goals as goal

pub index_mut-requires : goal.index_mut-requires
index_mut-requires c =
    let there = device_there c.requires.device in
    omega (arith, there, c.args.self.now.devices.ok.0)

pub returns : goal.returns
returns c = λ from lines stands.
    standard_stands c.args.place c.index_mut.result.now c.show_standard.new.self stands
    (device_there c.requires.device) c.index_mut.ensures.value c.show_standard.ensures
