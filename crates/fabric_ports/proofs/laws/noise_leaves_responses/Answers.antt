use Rattle.fabric_ports.proofs.NoiseLaws.{responses_are_one, responses_stay}
use Rattle.fabric_ports.proofs.laws.noise_leaves_responses.Goals as goal

pub returns : goal.returns
returns c = record { one = responses_are_one; stay = responses_stay }
