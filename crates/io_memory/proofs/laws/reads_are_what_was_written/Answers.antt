use Rattle.io_memory.proofs.MeetLaws.{reads_held}
use Rattle.io_memory.proofs.laws.reads_are_what_was_written.Goals as goal

pub returns : goal.returns
returns c = reads_held
