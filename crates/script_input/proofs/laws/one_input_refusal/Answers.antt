use Rattle.script_input.proofs.InputOnce.{refused_alone}
use Rattle.script_input.proofs.laws.one_input_refusal.Goals as goal

pub returns : goal.returns
returns c = refused_alone
