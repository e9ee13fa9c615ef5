use Rattle.std.proofs.Common.{refl}
use Rattle.contest_machine.proofs.examples.turns_that_go_on_are_counted.Goals as goal

pub returns-clause-two : goal.returns-clause-two
returns-clause-two c = refl

pub returns-clause-none : goal.returns-clause-none
returns-clause-none c = refl
