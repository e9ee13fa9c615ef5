use Rattle.script_input.proofs.InputOnce.{input_once}
use Rattle.script_input.proofs.laws.one_input.Goals as goal

pub returns : goal.returns
returns c = input_once
