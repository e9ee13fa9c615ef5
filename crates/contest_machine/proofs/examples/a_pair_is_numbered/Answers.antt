use Rattle.std.proofs.Common.{refl}
use Rattle.contest_machine.proofs.examples.a_pair_is_numbered.Goals as goal

pub returns-clause-done : goal.returns-clause-done
returns-clause-done c = (refl, refl)

pub returns-clause-map : goal.returns-clause-map
returns-clause-map c = refl
