use Rattle.link_buffers.proofs.PriorityLaws.{take-packets_of, drop-packets_of, Covers-take, Covers-drop}
use Rattle.link_buffers.proofs.priorities.first_take_the_first.Goals as goal

pub returns-clause-first : goal.returns-clause-first
returns-clause-first c = take-packets_of

pub returns-clause-rest : goal.returns-clause-rest
returns-clause-rest c = drop-packets_of

pub returns-clause-covered_first : goal.returns-clause-covered_first
returns-clause-covered_first c = Covers-take

pub returns-clause-covered_rest : goal.returns-clause-covered_rest
returns-clause-covered_rest c = Covers-drop
