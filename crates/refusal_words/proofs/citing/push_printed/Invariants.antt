use Rattle.std.proofs.Common.{◌≡◌, ◌++◌, map, take}
use Rattle.refusal_words.specs.Citing.{shown_byte}
use Rattle.refusal_words.proofs.citing.push_printed.Given as goal

abbrev pub invariant-loop-byte : goal.invariant-loop-byte
invariant-loop-byte l =
    l.message.items ≡ l.initial.message.items ++ map shown_byte (take l.byte-index l.fn.bytes)
