use Rattle.std.proofs.Common.{refl}
use Rattle.contest_machine.proofs.examples.the_greater_of_a_pair_is_done.Goals as goal

pub returns-clause-waits : goal.returns-clause-waits
returns-clause-waits c = refl

pub returns-clause-lost : goal.returns-clause-lost
returns-clause-lost c = refl

pub returns-clause-done : goal.returns-clause-done
returns-clause-done c = (refl, refl)
