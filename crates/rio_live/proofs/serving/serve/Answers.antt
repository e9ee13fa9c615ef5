use Rattle.rio_live.proofs.ServingLaws.{serves_none}
use Rattle.rio_live.proofs.serving.serve.Goals as goal

pub returns-in_default : goal.returns-in_default
returns-in_default g c = serves_none _ _ _ _

pub returns-in_default-new : goal.returns-in_default-new
returns-in_default-new g c = serves_none _ _ _ _

pub returns-in_default-new-2 : goal.returns-in_default-new-2
returns-in_default-new-2 g c = serves_none _ _ _ _
