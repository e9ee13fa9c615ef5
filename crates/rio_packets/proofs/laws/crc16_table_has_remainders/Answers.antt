use Rattle.rio_packets.proofs.TableLaws.{entry-remainder}
use Rattle.rio_packets.proofs.laws.crc16_table_has_remainders.Goals as goal

pub returns : goal.returns
returns c = entry-remainder
