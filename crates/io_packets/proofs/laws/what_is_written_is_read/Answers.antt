use Rattle.io_packets.proofs.WriteLaws.{reads_back}
use Rattle.io_packets.proofs.laws.what_is_written_is_read.Goals as goal

pub returns : goal.returns
returns c = reads_back
