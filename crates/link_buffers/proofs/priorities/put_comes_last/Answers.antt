use Rattle.link_buffers.proofs.PriorityLaws.{packets_of-appended, lists_without-appended, Covers-appended}
use Rattle.link_buffers.proofs.priorities.put_comes_last.Goals as goal

pub returns-clause-taken : goal.returns-clause-taken
returns-clause-taken c = packets_of-appended

pub returns-clause-stays : goal.returns-clause-stays
returns-clause-stays c = lists_without-appended

pub returns-clause-covered : goal.returns-clause-covered
returns-clause-covered c = Covers-appended
