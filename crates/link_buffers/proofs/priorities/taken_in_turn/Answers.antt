use Rattle.link_buffers.proofs.PriorityLists.{packets_of-append, lists_without-append}
use Rattle.link_buffers.proofs.priorities.taken_in_turn.Goals as goal

pub returns-clause-taken : goal.returns-clause-taken
returns-clause-taken c = packets_of-append

pub returns-clause-stays : goal.returns-clause-stays
returns-clause-stays c = lists_without-append
