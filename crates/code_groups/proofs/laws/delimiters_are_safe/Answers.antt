use Rattle.code_groups.proofs.BlockLaws.{none_made, none_lost}
use Rattle.code_groups.proofs.laws.delimiters_are_safe.Goals as goal

pub returns : goal.returns
returns c = record { made = none_made; lost = none_lost }
