use Rattle.std.proofs.Common.{◌≡◌, take, true}
use Rattle.rio_chars.proofs.last_run.are_same_data.Given as goal

abbrev pub invariant-loop-i : goal.invariant-loop-i
invariant-loop-i l = l.are_same ≡ true → take l.i l.some ≡ take l.i l.others
