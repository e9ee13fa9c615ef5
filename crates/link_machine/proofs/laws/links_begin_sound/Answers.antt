use Rattle.link_machine.proofs.Machine.{new_sound}
use Rattle.link_machine.proofs.laws.links_begin_sound.Goals as goal

pub returns : goal.returns
returns c = new_sound
