use Rattle.lawful_traces.proofs.Spelling.{traces_are_lawful}
use Rattle.lawful_traces.proofs.laws.traces_are_lawful.Goals as goal

pub returns : goal.returns
returns c = traces_are_lawful
