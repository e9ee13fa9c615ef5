use Rattle.fabric_maint.proofs.Agreeing.{agrees}
use Rattle.fabric_maint.proofs.laws.noise_leaves_answers.Goals as goal

pub returns : goal.returns
returns c = agrees
