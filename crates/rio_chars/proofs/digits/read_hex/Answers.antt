use Rattle.std.proofs.Common.{◌≡◌, ℕ, List, ◌++◌, length, refl, take, drop, rules, arith}
use Rattle.std.proofs.lemmas.Grind.{common_steps}
use Rattle.rio_chars.proofs.HexWords.{pairs-odd}
use Rattle.rio_chars.proofs.digits.read_hex.Goals.{else-digits-eq0-via-then-digits-eq0+else-read_pairs, else-digits-eq0-via-else-digits-eq0}
use Rattle.rio_chars.proofs.digits.read_hex.Goals as goal

-- a list in the place of all of another
all_written : (room items : List ℕ) (n : ℕ) → length room ≡ n
    → take n (room ++ drop (length room) items) ≡ room
all_written room items n size = grind (arith, common_steps)

pub returns-then-read_pairs : goal.returns-then-read_pairs
returns-then-read_pairs c =
    let bytes = c.in_ok-bytes.bytes in
    let size : length c.read_pairs.new.room ≡ bytes.len = omega arith in
    rw (all_written c.read_pairs.new.room bytes.items bytes.len size)
    (c.read_pairs.ensures.below, c.if-read_pairs.ensures.spelled refl)

pub returns-else-digits-eq0 : goal.returns-else-digits-eq0
returns-else-digits-eq0 c =
    elim c.else-digits-eq0.branch [
      | else-digits-eq0-via-then-digits-eq0+else-read_pairs w ↦ w.if-read_pairs.ensures.none refl
      | else-digits-eq0-via-else-digits-eq0 w ↦
          λ bytes are. pairs-odd c.args.digits.now bytes (search rules)
    ]
