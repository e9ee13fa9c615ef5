use Rattle.std.proofs.Common.{◌≡◌, ◌*◌, take}
use Rattle.rio_chars.specs.HexText.{hex_of}
use Rattle.rio_chars.proofs.digits.write_hex.Given as goal

abbrev pub invariant-loop-i : goal.invariant-loop-i
invariant-loop-i l = take (2 * l.i) l.room ≡ hex_of (take l.i l.bytes)
