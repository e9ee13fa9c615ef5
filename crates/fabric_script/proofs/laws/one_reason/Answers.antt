use Rattle.fabric_script.proofs.ScriptLaws.{least_once}
use Rattle.fabric_script.proofs.laws.one_reason.Goals as goal

pub returns : goal.returns
returns c = least_once
