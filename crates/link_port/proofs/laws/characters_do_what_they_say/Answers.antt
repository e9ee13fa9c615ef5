use Rattle.link_port.proofs.StreamLaws.{characters_are_their_reading}
use Rattle.link_port.proofs.laws.characters_do_what_they_say.Goals as goal

pub returns : goal.returns
returns c = characters_are_their_reading
