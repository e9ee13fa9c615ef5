use Rattle.contest_machine.specs.Machine.{kept}
use Rattle.contest_machine.proofs.Keeping.Few.{once_few}
use Rattle.contest_machine.proofs.Keeping.Bounding.{stepped_within}
use Rattle.contest_machine.proofs.laws.a_walker_stays_within_bounds.Goals as goal

pub returns-clause-within : goal.returns-clause-within
returns-clause-within c = stepped_within

pub returns-clause-few : goal.returns-clause-few
returns-clause-few c w within once = once_few w.view within.proper (kept w) within.leading once
