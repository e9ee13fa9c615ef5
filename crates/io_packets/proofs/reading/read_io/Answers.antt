use Rattle.io_packets.proofs.ReadLaws.{any_write_good, streaming_write_good, response_good}
use Rattle.io_packets.proofs.reading.read_io.Goals as goal

pub returns-in-5-clause-good : goal.returns-in-5-clause-good
returns-in-5-clause-good c = rw c.any_write_of.ensures (any_write_good c.bytes-bytes.result.now)

pub returns-in-6-clause-good : goal.returns-in-6-clause-good
returns-in-6-clause-good c =
    rw c.streaming_write_of.ensures (streaming_write_good c.bytes-bytes.result.now)

pub returns-in-13-clause-good : goal.returns-in-13-clause-good
returns-in-13-clause-good c = rw c.response_of.ensures (response_good c.bytes-bytes.result.now)
