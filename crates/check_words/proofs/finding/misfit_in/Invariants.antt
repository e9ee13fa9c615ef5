use Rattle.std.proofs.Common.{◌+◌}
use Rattle.fabric_script.specs.Lines.{words_of}
use Rattle.fabric_script.specs.Words.{words_left}
use Rattle.fabric_script.proofs.AdviceLaws.{IsBehind}
use Rattle.check_words.proofs.finding.misfit_in.Given as goal

abbrev pub invariant-loop-i : goal.invariant-loop-i
invariant-loop-i l = IsBehind (words_of l.text) (l.i + 1) (words_left l.left)
