use Rattle.contest_machine.proofs.Turns.Alone.{alone_waits_not, alone_is_done}
use Rattle.contest_machine.proofs.laws.who_is_left_alone_is_done.Goals as goal

pub returns-clause-no_wait : goal.returns-clause-no_wait
returns-clause-no_wait c = alone_waits_not

pub returns-clause-done : goal.returns-clause-done
returns-clause-done c = alone_is_done
