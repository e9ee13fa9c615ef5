use Rattle.fabric_contest.proofs.AllTurns.{first_holds_on, second_holds_on}
use Rattle.fabric_contest.proofs.laws.the_greater_host_holds_on.Goals as goal

pub returns-clause-first : goal.returns-clause-first
returns-clause-first c = first_holds_on

pub returns-clause-second : goal.returns-clause-second
returns-clause-second c = second_holds_on
