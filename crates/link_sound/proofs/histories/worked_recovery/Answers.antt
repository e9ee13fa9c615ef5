use Rattle.link_sound.proofs.WorkedRecoveries.{asked, recovered, recovery_comes, recovery_ends, is_asked, is_recovered, recovered_arrive}
use Rattle.link_sound.proofs.histories.worked_recovery.Goals as goal

pub returns : goal.returns
returns c =
    (asked, recovered, recovery_comes, is_asked, recovery_ends, is_recovered, recovered_arrive)
