use Rattle.lane_sync.proofs.SyncLaws.{all_in}
use Rattle.lane_sync.proofs.laws.in_sync_what_is_sent_is_heard.Goals as goal

pub returns : goal.returns
returns c = all_in
