use Rattle.code_groups.proofs.BlockLaws.{one_block}
use Rattle.code_groups.proofs.laws.a_wrong_bit_stays_in_its_block.Goals as goal

pub returns : goal.returns
returns c = one_block
