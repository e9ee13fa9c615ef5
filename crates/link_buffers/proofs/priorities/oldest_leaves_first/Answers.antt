use Rattle.link_buffers.proofs.PriorityLaws.{Covers-first, packets_of-cons, Covers-rest}
use Rattle.link_buffers.proofs.priorities.oldest_leaves_first.Goals as goal

pub returns-clause-some : goal.returns-clause-some
returns-clause-some c = Covers-first

pub returns-clause-taken : goal.returns-clause-taken
returns-clause-taken c = packets_of-cons

pub returns-clause-covered : goal.returns-clause-covered
returns-clause-covered c = Covers-rest
