use Rattle.contest_machine.proofs.Asking.AllAsked.{open_paths_carry}
use Rattle.contest_machine.proofs.laws.open_paths_carry.Goals as goal

pub returns : goal.returns
returns c = open_paths_carry
