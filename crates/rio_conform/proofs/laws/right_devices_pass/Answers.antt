use Rattle.rio_conform.proofs.PassLaws.{right_passes}
use Rattle.rio_conform.proofs.laws.right_devices_pass.Goals as goal

pub returns : goal.returns
returns c = right_passes
