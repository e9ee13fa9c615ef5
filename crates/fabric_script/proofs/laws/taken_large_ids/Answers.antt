use Rattle.fabric_script.proofs.LargeIdLaws.{taken_exactly}
use Rattle.fabric_script.proofs.laws.taken_large_ids.Goals as goal

pub returns : goal.returns
returns c = taken_exactly
