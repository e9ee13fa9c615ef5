use Rattle.link_machine.proofs.Machine.{run_keeps}
use Rattle.link_machine.proofs.laws.runs_keep_it.Goals as goal

pub returns : goal.returns
returns c = λ s end notes run l. run_keeps run l
