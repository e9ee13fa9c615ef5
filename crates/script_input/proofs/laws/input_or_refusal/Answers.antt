use Rattle.script_input.proofs.InputOnce.{not_input}
use Rattle.script_input.proofs.laws.input_or_refusal.Goals as goal

pub returns : goal.returns
returns c = not_input
