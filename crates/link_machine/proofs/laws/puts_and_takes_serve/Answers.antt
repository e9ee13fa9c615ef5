use Rattle.link_machine.proofs.Serving.{put_serves, take_serves}
use Rattle.link_machine.proofs.laws.puts_and_takes_serve.Goals as goal

pub returns-clause-put : goal.returns-clause-put
returns-clause-put c = put_serves

pub returns-clause-take : goal.returns-clause-take
returns-clause-take c = take_serves
