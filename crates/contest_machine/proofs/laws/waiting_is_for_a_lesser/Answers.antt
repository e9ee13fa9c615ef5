use Rattle.contest_machine.proofs.Turns.WaitingTurns.{waiting_exactly}
use Rattle.contest_machine.proofs.laws.waiting_is_for_a_lesser.Goals as goal

pub returns : goal.returns
returns c = waiting_exactly
