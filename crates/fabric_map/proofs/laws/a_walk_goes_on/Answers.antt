use Rattle.fabric_map.proofs.Steps.{begins, goes_past, takes_in, closes}
use Rattle.fabric_map.proofs.laws.a_walk_goes_on.Goals as goal

pub returns : goal.returns
returns c = record { begun = begins; past = goes_past; taken = takes_in; closed = closes }
