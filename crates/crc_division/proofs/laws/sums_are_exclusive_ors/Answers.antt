use Rattle.crc_division.proofs.BitsLaws.{bits_xor}
use Rattle.crc_division.proofs.laws.sums_are_exclusive_ors.Goals as goal

pub returns : goal.returns
returns c = bits_xor
