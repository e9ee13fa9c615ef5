use Rattle.lawful_asks.proofs.AskInputs.{inputs_are_lawful}
use Rattle.lawful_asks.proofs.laws.inputs_of_asks_are_lawful.Goals as goal

pub returns : goal.returns
returns c = inputs_are_lawful
