use Rattle.fabric_model.proofs.Forms.{answers_pass}
use Rattle.fabric_model.proofs.laws.answers_pass.Goals as goal

pub returns : goal.returns
returns c = answers_pass
