use Rattle.std.proofs.Common.{◌≡◌, ◌==◌, false, All, take}
use Rattle.check_words.proofs.words.split_point.Given as goal

abbrev pub invariant-loop-i : goal.invariant-loop-i
invariant-loop-i l = All (λ byte. (byte == 46) ≡ false) (take l.i l.word)
