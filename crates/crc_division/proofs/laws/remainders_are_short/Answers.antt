use Rattle.std.proofs.Common.{◌+◌, ◌-◌, length, ◌∙◌, arith}
use Rattle.crc_division.proofs.DivisionLaws.{length-division_steps}
use Rattle.crc_division.proofs.laws.remainders_are_short.Goals as goal

pub returns : goal.returns
returns c bs divisor some enough = length-division_steps (length bs + 1 - length divisor) divisor bs
    ∙ omega arith
