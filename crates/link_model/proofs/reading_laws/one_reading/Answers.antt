use Rattle.link_model.proofs.PlacesLaws.{reading_exists, reading_only, reading_cut}
use Rattle.link_model.proofs.reading_laws.one_reading.Goals as goal

pub returns : goal.returns
returns c = record { exists = reading_exists; one = reading_only; cut = reading_cut }
