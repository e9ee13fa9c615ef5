use Rattle.fabric_ports.proofs.OutsideLaws.{joined_stands}
use Rattle.fabric_ports.proofs.fabric.Fabric.outside_joins.Goals as goal

pub returns : goal.returns
returns c = λ from lines stands.
    joined_stands c.index_mut.result.now c.tell_link.new.device c.requires.free stands
    c.from.ensures c.index_mut.ensures.value c.tell_link.ensures
