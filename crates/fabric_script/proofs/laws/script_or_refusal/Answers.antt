use Rattle.fabric_script.specs.declared.known.Mode.TheVariants as Mode
use Rattle.fabric_script.proofs.ScriptLaws.{not_refused}
use Rattle.fabric_script.proofs.laws.script_or_refusal.Goals as goal

pub returns : goal.returns
returns c = not_refused Mode.Script
