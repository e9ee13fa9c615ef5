use Rattle.fabric_model.proofs.Room.{places_suffice}
use Rattle.fabric_model.proofs.laws.places_suffice.Goals as goal

pub returns : goal.returns
returns c = places_suffice
