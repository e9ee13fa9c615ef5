use Rattle.std.proofs.Common.{◌≡◌, ◌++◌, take}
use Rattle.rio_chars.specs.HexText.{hex_of}
use Rattle.check_words.proofs.needs.push_hex.Given as goal

abbrev pub invariant-loop-byte : goal.invariant-loop-byte
invariant-loop-byte l =
    l.message.items ≡ l.initial.message.items ++ hex_of (take l.byte-index l.fn.bytes)
