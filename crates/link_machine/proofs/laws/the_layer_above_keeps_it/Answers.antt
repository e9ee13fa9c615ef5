use Rattle.link_machine.proofs.Machine.{layer_keeps}
use Rattle.link_machine.proofs.laws.the_layer_above_keeps_it.Goals as goal

pub returns : goal.returns
returns c = layer_keeps
