use Rattle.lawful_traces.proofs.Inputs.{inputs_are_lawful}
use Rattle.lawful_traces.proofs.laws.inputs_of_traces_are_lawful.Goals as goal

pub returns : goal.returns
returns c = inputs_are_lawful
