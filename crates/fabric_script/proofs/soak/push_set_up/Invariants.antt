use Rattle.std.specs.Array.Iter.{array_into_iter_items}
use Rattle.fabric_script.proofs.SoakLaws.{AreSoFar}
use Rattle.fabric_script.proofs.soak.push_set_up.Given as goal

abbrev pub invariant-loop-line : goal.invariant-loop-line
invariant-loop-line l = AreSoFar l.lines.items (array_into_iter_items l.line-iterator)
