use Rattle.std.proofs.Common.{◌≡◌, ◌++◌, List, map, filter}
use Rattle.rio_chars.specs.declared.chars.Char.{Char}
use Rattle.rio_cli.specs.Decoding.{is_word, AreTexts}
use Rattle.rio_cli.proofs.words.read_line.Given as goal

abbrev pub invariant-loop-word : goal.invariant-loop-word
invariant-loop-word l =
    (more : List Char) × (l.chars.items ≡ l.initial.chars.items ++ more)
    × AreTexts (filter is_word (map (λ w. w.now) l.yielded)) more
