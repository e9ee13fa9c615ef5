use Rattle.link_sound.proofs.WorkedRecoveries.{stopped, retried, retry_comes, retry_ends, is_stopped, retried_arrive}
use Rattle.link_sound.proofs.histories.worked_retry.Goals as goal

pub returns : goal.returns
returns c = (stopped, retried, retry_comes, is_stopped, retry_ends, retried_arrive)
