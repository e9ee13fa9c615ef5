use Rattle.lawful_asks.proofs.LawfulAsks.{asks_are_lawful}
use Rattle.lawful_asks.proofs.laws.asks_are_lawful.Goals as goal

pub returns : goal.returns
returns c = asks_are_lawful
