use Rattle.io_script.proofs.IoOnce.{io_script_once}
use Rattle.io_script.proofs.laws.one_io_script.Goals as goal

pub returns : goal.returns
returns c = io_script_once
