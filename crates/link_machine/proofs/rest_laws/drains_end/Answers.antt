use Rattle.link_machine.proofs.Settling.Drains.{drain_empties}
use Rattle.link_machine.proofs.Settling.DrainCounts.{drain_is_short, drain_exists}
use Rattle.link_machine.proofs.rest_laws.drains_end.Goals as goal

pub returns-clause-five : goal.returns-clause-five
returns-clause-five c = drain_is_short

pub returns-clause-exists : goal.returns-clause-exists
returns-clause-exists c = drain_exists

pub returns-clause-empty : goal.returns-clause-empty
returns-clause-empty c = drain_empties
