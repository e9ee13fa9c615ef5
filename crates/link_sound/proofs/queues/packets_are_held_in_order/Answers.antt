use Rattle.link_sound.proofs.Moves.{acted_holds, other_holds}
use Rattle.link_sound.proofs.queues.packets_are_held_in_order.Goals as goal

pub returns-clause-acted : goal.returns-clause-acted
returns-clause-acted c = acted_holds

pub returns-clause-other : goal.returns-clause-other
returns-clause-other c = other_holds
