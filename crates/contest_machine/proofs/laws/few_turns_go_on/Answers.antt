use Rattle.contest_machine.proofs.Turns.Counted.{going_bounded}
use Rattle.contest_machine.proofs.laws.few_turns_go_on.Goals as goal

pub returns : goal.returns
returns c = going_bounded
