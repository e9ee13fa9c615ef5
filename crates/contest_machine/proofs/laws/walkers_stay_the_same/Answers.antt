use Rattle.contest_machine.proofs.Turns.Staying.{walkers_stay}
use Rattle.contest_machine.proofs.laws.walkers_stay_the_same.Goals as goal

pub returns : goal.returns
returns c = walkers_stay
