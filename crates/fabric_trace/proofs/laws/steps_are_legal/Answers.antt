use Rattle.fabric_trace.proofs.SetUps.Starting.{legal, front_legal, lawful, runs_lawful}
use Rattle.fabric_trace.proofs.laws.steps_are_legal.Goals as goal

pub returns : goal.returns
returns c = record { all = legal; front = front_legal; lawful = lawful; of_script = runs_lawful }
