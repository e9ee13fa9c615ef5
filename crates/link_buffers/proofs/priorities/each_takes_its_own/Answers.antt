use Rattle.link_buffers.proofs.PriorityLaws.{length-packets_of, packet_count-lists_without, map-prio_of-packets_of, IsOutStore-lists_without}
use Rattle.link_buffers.proofs.priorities.each_takes_its_own.Goals as goal

pub returns-clause-count : goal.returns-clause-count
returns-clause-count c = length-packets_of

pub returns-clause-all : goal.returns-clause-all
returns-clause-all c = packet_count-lists_without

pub returns-clause-priorities : goal.returns-clause-priorities
returns-clause-priorities c = map-prio_of-packets_of

pub returns-clause-store : goal.returns-clause-store
returns-clause-store c = IsOutStore-lists_without
