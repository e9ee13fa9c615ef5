use Rattle.rio_words.proofs.bad_word.bad_word_of.Given as goal

abbrev pub invariant-loop-word : goal.invariant-loop-word
invariant-loop-word l = Unit {0}
