use Rattle.fabric_script.proofs.ReadLaws.{spelled_no_hit}
use Rattle.fabric_script.proofs.laws.line_or_reason.Goals as goal

pub returns : goal.returns
returns c = spelled_no_hit
