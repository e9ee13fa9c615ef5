use Rattle.contest_machine.proofs.Numbering.Together.{turns_leave_others}
use Rattle.contest_machine.proofs.laws.turns_leave_other_devices.Goals as goal

pub returns : goal.returns
returns c = turns_leave_others
