use Rattle.contest_machine.proofs.Turns.Judging.{lost_exactly}
use Rattle.contest_machine.proofs.laws.lost_is_for_a_greater.Goals as goal

pub returns : goal.returns
returns c = lost_exactly
