use Rattle.link_buffers.proofs.PriorityLists.{slice_get-lists_without}
use Rattle.link_buffers.proofs.PriorityLaws.{packets_of-next, Covers-next}
use Rattle.link_buffers.proofs.priorities.next_is_the_first_that_stays.Goals as goal

pub returns-clause-place : goal.returns-clause-place
returns-clause-place c = slice_get-lists_without

pub returns-clause-taken : goal.returns-clause-taken
returns-clause-taken c = packets_of-next

pub returns-clause-covered : goal.returns-clause-covered
returns-clause-covered c = Covers-next
