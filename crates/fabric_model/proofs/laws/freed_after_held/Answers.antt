use Rattle.fabric_model.proofs.Freeing.{freed_after_held}
use Rattle.fabric_model.proofs.laws.freed_after_held.Goals as goal

pub returns : goal.returns
returns c = freed_after_held
