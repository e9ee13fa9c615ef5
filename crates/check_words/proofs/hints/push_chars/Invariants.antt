use Rattle.std.proofs.Common.{◌≡◌, ◌++◌, take}
use Rattle.rio_chars.specs.CharText.{spaced_chars}
use Rattle.check_words.proofs.hints.push_chars.Given as goal

abbrev pub invariant-loop-c : goal.invariant-loop-c
invariant-loop-c l =
    l.message.items ≡ l.initial.message.items ++ spaced_chars (take l.c-index l.fn.chars)
