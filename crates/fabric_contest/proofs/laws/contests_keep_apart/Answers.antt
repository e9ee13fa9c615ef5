use Rattle.fabric_contest.proofs.AllTurns.{keep_apart}
use Rattle.fabric_contest.proofs.laws.contests_keep_apart.Goals as goal

pub returns : goal.returns
returns c = keep_apart
