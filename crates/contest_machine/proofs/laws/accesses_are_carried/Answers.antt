use Rattle.contest_machine.proofs.Asking.AllOpen.{paths_are_opened, accesses_are_carried}
use Rattle.contest_machine.proofs.laws.accesses_are_carried.Goals as goal

pub returns-clause-opened : goal.returns-clause-opened
returns-clause-opened c = paths_are_opened

pub returns-clause-carried : goal.returns-clause-carried
returns-clause-carried c = accesses_are_carried
