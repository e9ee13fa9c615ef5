use Rattle.io_packets.proofs.MemoryLaws.{keeps_written, keeps_others, keeps_length}
use Rattle.io_packets.proofs.laws.memory_keeps_what_is_written.Goals as goal

pub returns-clause-written : goal.returns-clause-written
returns-clause-written c = keeps_written

pub returns-clause-others : goal.returns-clause-others
returns-clause-others c = keeps_others

pub returns-clause-length : goal.returns-clause-length
returns-clause-length c = keeps_length
