use Rattle.link_buffers.proofs.PriorityParts.{list-parts}
use Rattle.link_buffers.proofs.priorities.outstanding_come_first.Goals as goal

pub returns : goal.returns
returns c = list-parts
