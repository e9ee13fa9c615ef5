use Rattle.rio_symbols.proofs.CrcLaws.{table_entry-bits}
use Rattle.rio_symbols.proofs.crc.crc5_table_has_remainders.Goals as goal

pub returns : goal.returns
returns c = table_entry-bits
