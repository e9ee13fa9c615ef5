use Rattle.fabric_model.proofs.Joining.{legal_parts, legal_joined}
use Rattle.fabric_model.proofs.laws.joined.Goals as goal

pub returns : goal.returns
returns c = record { parts = legal_parts; whole = legal_joined }
