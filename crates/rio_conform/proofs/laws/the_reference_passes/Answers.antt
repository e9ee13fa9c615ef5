use Rattle.rio_conform.proofs.ReferenceLaws.{reference_passes}
use Rattle.rio_conform.proofs.laws.the_reference_passes.Goals as goal

pub returns : goal.returns
returns c = reference_passes
