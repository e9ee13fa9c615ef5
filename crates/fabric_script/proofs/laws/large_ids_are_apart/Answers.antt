use Rattle.fabric_script.proofs.LargeIdLaws.{large_ids_apart}
use Rattle.fabric_script.proofs.laws.large_ids_are_apart.Goals as goal

pub returns : goal.returns
returns c = large_ids_apart
