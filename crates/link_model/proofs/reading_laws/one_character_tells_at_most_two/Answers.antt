use Rattle.link_model.proofs.PlacesLaws.{given}
use Rattle.link_model.proofs.reading_laws.one_character_tells_at_most_two.Goals as goal

pub returns : goal.returns
returns c = given
