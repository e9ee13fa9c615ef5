use Rattle.io_law.proofs.Responses.{were_replied}
use Rattle.io_law.proofs.laws.responses_were_replied.Goals as goal

pub returns : goal.returns
returns c = were_replied
