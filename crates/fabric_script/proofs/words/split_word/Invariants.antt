use Rattle.std.proofs.Common.{◌≡◌, ◌==◌, false, All, take}
use Rattle.fabric_script.proofs.words.split_word.Given as goal

abbrev pub invariant-loop-i : goal.invariant-loop-i
invariant-loop-i l = All (λ byte. (byte == 32) ≡ false) (take l.i l.text)
