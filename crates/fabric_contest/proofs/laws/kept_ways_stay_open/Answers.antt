use Rattle.fabric_contest.proofs.StayingOpen.{first_stays_open, second_stays_open}
use Rattle.fabric_contest.proofs.laws.kept_ways_stay_open.Goals as goal

pub returns-clause-first : goal.returns-clause-first
returns-clause-first c = first_stays_open

pub returns-clause-second : goal.returns-clause-second
returns-clause-second c = second_stays_open
