use Rattle.link_machine.proofs.Machine.{none_failed}
use Rattle.link_machine.proofs.laws.no_sender_fails.Goals as goal

pub returns : goal.returns
returns c = none_failed
