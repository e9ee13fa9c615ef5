use Rattle.link_machine.proofs.Settling.OneWay.{settles_one}
use Rattle.link_machine.proofs.rest_laws.one_way_to_settle.Goals as goal

pub returns : goal.returns
returns c = settles_one
