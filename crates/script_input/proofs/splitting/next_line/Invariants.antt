use Rattle.std.proofs.Common.{◌≡◌, ◌==◌, false, All, take}
use Rattle.script_input.proofs.splitting.next_line.Given as goal

abbrev pub invariant-loop-i : goal.invariant-loop-i
invariant-loop-i l = All (λ byte. (byte == 10) ≡ false) (take l.i l.bytes)
