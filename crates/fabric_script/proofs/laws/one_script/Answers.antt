use Rattle.fabric_script.specs.declared.known.Mode.TheVariants as Mode
use Rattle.fabric_script.proofs.ScriptLaws.{script_once}
use Rattle.fabric_script.proofs.laws.one_script.Goals as goal

pub returns : goal.returns
returns c = script_once Mode.Script
