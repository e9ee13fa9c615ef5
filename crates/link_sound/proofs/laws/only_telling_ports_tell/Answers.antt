use Rattle.link_sound.proofs.Told.{new_told, turn_keeps, tell_keeps, acted_keeps, other_keeps, time_out_keeps, lost_keeps}
use Rattle.link_sound.proofs.laws.only_telling_ports_tell.Goals as goal

pub returns-clause-new : goal.returns-clause-new
returns-clause-new c = new_told

pub returns-clause-turn : goal.returns-clause-turn
returns-clause-turn c = turn_keeps

pub returns-clause-tell : goal.returns-clause-tell
returns-clause-tell c = tell_keeps

pub returns-clause-acted : goal.returns-clause-acted
returns-clause-acted c = acted_keeps

pub returns-clause-other : goal.returns-clause-other
returns-clause-other c = other_keeps

pub returns-clause-time_out : goal.returns-clause-time_out
returns-clause-time_out c = time_out_keeps

pub returns-clause-lost : goal.returns-clause-lost
returns-clause-lost c = lost_keeps
