use Rattle.contest_machine.proofs.Keeping.Apart.{turns_keep_apart}
use Rattle.contest_machine.proofs.laws.each_turn_keeps_apart.Goals as goal

pub returns : goal.returns
returns c = turns_keep_apart
