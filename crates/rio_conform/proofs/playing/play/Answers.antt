use Rattle.rio_conform.proofs.PlayLaws.{Plays-stopped}
use Rattle.rio_conform.proofs.playing.play.Goals as goal

pub returns-in_default-clause-plays : goal.returns-in_default-clause-plays
returns-in_default-clause-plays g c = Plays-stopped _ _ _ _ _ _ _ _ _

pub returns-in_default-new-clause-plays : goal.returns-in_default-new-clause-plays
returns-in_default-new-clause-plays g c = Plays-stopped _ _ _ _ _ _ _ _ _

pub returns-clause-plays : goal.returns-clause-plays
returns-clause-plays g c = Plays-stopped _ _ _ _ _ _ _ _ _
