use Rattle.script_law.proofs.Inputs.{input_or_refused}
use Rattle.script_law.proofs.laws.every_input_is_parted_or_refused.Goals as goal

pub returns : goal.returns
returns c = input_or_refused
