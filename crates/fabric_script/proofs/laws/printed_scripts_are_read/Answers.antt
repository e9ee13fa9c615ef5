use Rattle.fabric_script.proofs.PrintLaws.{printed}
use Rattle.fabric_script.proofs.laws.printed_scripts_are_read.Goals as goal

pub returns : goal.returns
returns c = printed
