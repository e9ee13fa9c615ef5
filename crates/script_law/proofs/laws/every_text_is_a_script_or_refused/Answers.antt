use Rattle.fabric_script.specs.Known.{of_script}
use Rattle.script_law.proofs.TextChoice.{script_or_refused}
use Rattle.script_law.proofs.laws.every_text_is_a_script_or_refused.Goals as goal

pub returns-clause-script : goal.returns-clause-script
returns-clause-script c = script_or_refused of_script

pub returns-clause-in_mode : goal.returns-clause-in_mode
returns-clause-in_mode c = script_or_refused
