use Rattle.io_rounds.proofs.IoFitting.{script_fits}
use Rattle.io_rounds.proofs.laws.io_scripts_are_fit.Goals as goal

pub returns : goal.returns
returns c = script_fits
