use Rattle.fabric_script.specs.Lines.{words_of}
use Rattle.fabric_script.proofs.AdviceLaws.{IsBehind}
use Rattle.fabric_script.proofs.advice.has_empty_word.Given as goal

abbrev pub invariant-loop : goal.invariant-loop
invariant-loop l = IsBehind (words_of l.text) l.counter l.words.words
