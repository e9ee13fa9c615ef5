use Rattle.io_script.proofs.IoOnce.{io_refused_once}
use Rattle.io_script.proofs.laws.one_io_refusal.Goals as goal

pub returns : goal.returns
returns c = io_refused_once
