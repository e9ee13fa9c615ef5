use Rattle.fabric_model.proofs.Around.{parting_legal, parting_breaks}
use Rattle.fabric_model.proofs.examples.flows_can_part.Goals as goal

pub returns : goal.returns
returns c = record { legal = parting_legal; order = parting_breaks }
