use Rattle.judged_inputs.proofs.Judging.{input_judged}
use Rattle.judged_inputs.proofs.laws.every_input_is_judged.Goals as goal

pub returns : goal.returns
returns c = input_judged
