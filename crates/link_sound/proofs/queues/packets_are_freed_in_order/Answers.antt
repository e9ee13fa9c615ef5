use Rattle.link_sound.proofs.Moves.{acted_frees, other_frees}
use Rattle.link_sound.proofs.queues.packets_are_freed_in_order.Goals as goal

pub returns-clause-acted : goal.returns-clause-acted
returns-clause-acted c = acted_frees

pub returns-clause-other : goal.returns-clause-other
returns-clause-other c = other_frees
