use Rattle.link_machine.proofs.Ways.{none_fails_within}
use Rattle.link_machine.proofs.laws.no_sender_fails_within_a_delivery.Goals as goal

pub returns : goal.returns
returns c = none_fails_within
