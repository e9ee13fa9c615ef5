use Rattle.std.proofs.Common.{◌<◌, ◌≡◌, ◌≢◌, ℕ, ◌∷◌, [], MatchOption, Option, Some, None, IfSome, IfNone}
use Rattle.rio_chars.specs.HexText.{hex_digit, hex_of}
use Rattle.fabric_script.proofs.HexWords.{low_digit, no_low_digit}
use Rattle.fabric_script.proofs.hex.digit_value.Goals as goal

by_answer : (digit : ℕ) (read : Option ℕ) → IfSome read (λ byte. byte < 256)
    → IfSome read (λ byte. (48 ∷ digit ∷ []) ≡ hex_of (byte ∷ []))
    → IfNone read ((byte : ℕ) → byte < 256 → (48 ∷ digit ∷ []) ≢ hex_of (byte ∷ []))
    → MatchOption read ((value : ℕ) → value < 16 → digit ≢ hex_digit value)
    (λ value. (value < 16) × (digit ≡ hex_digit value))
by_answer digit (Some byte) below text none = low_digit digit byte below text
by_answer digit None below text none = no_low_digit digit none

pub returns : goal.returns
returns c = by_answer c.args.digit c.read_hex_byte.result c.read_hex_byte.ensures.below
    c.read_hex_byte.ensures.text c.read_hex_byte.ensures.none
