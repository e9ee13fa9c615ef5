use Rattle.std.proofs.Common.{◌≡◌, Some, sym, ◌∙◌}
use Rattle.fabric_ask.proofs.laws.an_ask_has_one_trip.Goals as goal

pub returns : goal.returns
returns c = λ registers links host request at other one two.
    let same : Some at ≡ Some other = sym one.ends ∙ two.ends in cc
