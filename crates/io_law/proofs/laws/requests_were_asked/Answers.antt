use Rattle.io_law.proofs.Requests.{requests_asked}
use Rattle.io_law.proofs.laws.requests_were_asked.Goals as goal

pub returns : goal.returns
returns c = requests_asked
