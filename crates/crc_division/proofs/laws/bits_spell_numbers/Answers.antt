use Rattle.crc_division.proofs.BitsLaws.{length-bits, number-bits, bits-number}
use Rattle.crc_division.proofs.laws.bits_spell_numbers.Goals as goal

pub returns-clause-length : goal.returns-clause-length
returns-clause-length c = length-bits

pub returns-clause-spelled : goal.returns-clause-spelled
returns-clause-spelled c = number-bits

pub returns-clause-back : goal.returns-clause-back
returns-clause-back c = bits-number
