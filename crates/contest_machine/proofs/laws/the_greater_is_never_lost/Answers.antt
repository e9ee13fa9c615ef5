use Rattle.contest_machine.proofs.Keeping.Greater.{greater_holds_on}
use Rattle.contest_machine.proofs.laws.the_greater_is_never_lost.Goals as goal

pub returns : goal.returns
returns c = greater_holds_on
