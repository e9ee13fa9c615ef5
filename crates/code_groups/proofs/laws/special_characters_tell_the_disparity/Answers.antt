use Rattle.code_groups.proofs.BlockLaws.{tells}
use Rattle.code_groups.proofs.laws.special_characters_tell_the_disparity.Goals as goal

pub returns : goal.returns
returns c = tells
