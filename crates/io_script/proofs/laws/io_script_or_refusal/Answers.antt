use Rattle.io_script.proofs.IoOnce.{io_script_not_refused}
use Rattle.io_script.proofs.laws.io_script_or_refusal.Goals as goal

pub returns : goal.returns
returns c = io_script_not_refused
