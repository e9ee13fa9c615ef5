use Rattle.std.proofs.Common.{◌+◌}
use Rattle.fabric_script.specs.Lines.{words_of}
use Rattle.fabric_script.proofs.AdviceLaws.{IsBehind}
use Rattle.fabric_script.proofs.advice.advise_word.Given as goal

abbrev pub invariant-loop-i : goal.invariant-loop-i
invariant-loop-i l = IsBehind (words_of l.text) (l.i + 1) l.words.words
