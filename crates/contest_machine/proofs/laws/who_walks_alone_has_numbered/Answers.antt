use Rattle.contest_machine.proofs.Walking.Mapped.{alone_numbers}
use Rattle.contest_machine.proofs.Walking.MetLocks.{alone_meets_locks}
use Rattle.contest_machine.proofs.Walking.Bounded.{alone_ends}
use Rattle.contest_machine.proofs.Walking.Beside.{alone_is_carried}
use Rattle.contest_machine.proofs.laws.who_walks_alone_has_numbered.Goals as goal

pub returns-clause-numbers : goal.returns-clause-numbers
returns-clause-numbers c = alone_numbers

pub returns-clause-meets : goal.returns-clause-meets
returns-clause-meets c = alone_meets_locks

pub returns-clause-ends : goal.returns-clause-ends
returns-clause-ends c = alone_ends

pub returns-clause-carried : goal.returns-clause-carried
returns-clause-carried c = alone_is_carried
