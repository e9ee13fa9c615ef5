use Rattle.std.proofs.Common.{◌≡◌, ◌++◌, map, take, drop}
use Rattle.library_calls.specs.Wires.{char_wire}
use Rattle.library_calls.proofs.wires.put_wires.Given as goal

abbrev pub invariant-loop-i : goal.invariant-loop-i
invariant-loop-i l = l.room ≡ map char_wire (take l.i l.chars) ++ drop l.i l.initial.room
