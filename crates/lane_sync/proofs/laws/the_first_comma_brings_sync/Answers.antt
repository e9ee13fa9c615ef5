use Rattle.lane_sync.proofs.SyncLaws.{all_from_comma}
use Rattle.lane_sync.proofs.laws.the_first_comma_brings_sync.Goals as goal

pub returns : goal.returns
returns c = all_from_comma
