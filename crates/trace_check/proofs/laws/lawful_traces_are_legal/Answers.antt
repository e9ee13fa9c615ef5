use Rattle.trace_check.proofs.Legal.{pass_lawful}
use Rattle.trace_check.proofs.laws.lawful_traces_are_legal.Goals as goal

pub returns : goal.returns
returns c = pass_lawful
