use Rattle.link_buffers.proofs.PriorityLaws.{packet_count-highest, highest_below-some, count_of-highest, Covers-highest}
use Rattle.link_buffers.proofs.priorities.highest_may_be_next.Goals as goal

pub returns-clause-some : goal.returns-clause-some
returns-clause-some c = packet_count-highest

pub returns-clause-range : goal.returns-clause-range
returns-clause-range c lists prio = highest_below-some 4 prio lists

pub returns-clause-waits : goal.returns-clause-waits
returns-clause-waits c = count_of-highest

pub returns-clause-covered : goal.returns-clause-covered
returns-clause-covered c = Covers-highest
