use Rattle.std.proofs.Common.{refl}
use Rattle.crc_division.specs.Division.{division_steps}
use Rattle.crc_division.proofs.laws.worked_division.Goals as goal

pub returns : goal.returns
unfolding division_steps
returns c = refl
