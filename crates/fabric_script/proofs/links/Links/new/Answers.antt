use Rattle.std.proofs.Common.{◌≡◌, [], rules}
use Rattle.fabric_script.proofs.Marks.{none_marked}
use Rattle.fabric_script.proofs.links.Links.new.Goals as goal

pub invariant_of-result : goal.invariant_of-result
invariant_of-result c =
    let none : c.new.result.items ≡ [] = search rules in
    rw none none_marked
