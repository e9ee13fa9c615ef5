use Rattle.fabric_model.proofs.Holding.{holding_exactly}
use Rattle.fabric_model.proofs.laws.holding_exactly.Goals as goal

pub returns : goal.returns
returns c = holding_exactly
