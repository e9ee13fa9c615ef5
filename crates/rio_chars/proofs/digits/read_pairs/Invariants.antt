use Rattle.std.proofs.Common.{◌≡◌, ◌≢◌, ◌<◌, ◌*◌, ℕ, All, List, take, true, false}
use Rattle.rio_chars.specs.HexText.{hex_of}
use Rattle.rio_chars.proofs.digits.read_pairs.Given as goal

abbrev pub invariant-loop-i : goal.invariant-loop-i
invariant-loop-i l = record {
  below : All (λ byte. byte < 256) (take l.i l.room);
  spelled : l.are_digits ≡ true → take (2 * l.i) l.digits ≡ hex_of (take l.i l.room);
  none :
      l.are_digits ≡ false → (bytes : List ℕ) → All (λ byte. byte < 256) bytes
      → l.digits ≢ hex_of bytes;
}
