use Rattle.contest_machine.proofs.Keeping.Owning.{accesses_change_their_own}
use Rattle.contest_machine.proofs.laws.accesses_change_their_own.Goals as goal

pub returns : goal.returns
returns c = accesses_change_their_own
