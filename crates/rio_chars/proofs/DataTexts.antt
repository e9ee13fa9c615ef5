-- The table of the text of each data character.
use Rattle.std.proofs.Common.{◌≡◌, ℕ, ◌+◌, ◌*◌, ◌<◌, ◌/◌, ◌%◌, [], ◌∷◌, get_or, map, refl, ap, ap₂, ◌∙◌, arith}
use Rattle.std.specs.List.{range_with_len}
use Rattle.std.proofs.lemmas.Bool.Decides.{nat_tests}
use Rattle.std.proofs.lemmas.List.FromFn.{get_or-map-range_with_len}
use Rattle.rio_chars.specs.HexText.{hex_digit}
use Rattle.rio_chars.specs.declared.runs.TheConstants.{DATA_TEXTS}

-- the two digits of a byte, the first in the low byte
abbrev pair_of : ℕ → ℕ
pair_of byte = hex_digit (byte / 16) + 256 * hex_digit (byte % 16)

-- a space and a `d` in the low bytes, and the digits above them
abbrev text_of : ℕ → ℕ
text_of byte = 25632 + 65536 * pair_of byte

texts_are : DATA_TEXTS ≡ map text_of (range_with_len 0 256)
texts_are = refl

text_at : (byte d : ℕ) → byte < 256 → get_or DATA_TEXTS byte d ≡ text_of byte
text_at byte d below =
    ap (λ table. get_or table byte d) texts_are
    ∙ get_or-map-range_with_len text_of 0 256 byte byte d below (omega arith)

digit_small : (n : ℕ) → n < 16 → hex_digit n < 256
digit_small n few = grind (arith, nat_tests)

-- what the table has is the text
pub text_bytes : (byte d : ℕ) → byte < 256
    → get_or DATA_TEXTS byte d % 256 ∷ get_or DATA_TEXTS byte d / 256 % 256
    ∷ get_or DATA_TEXTS byte d / 65536 % 256 ∷ get_or DATA_TEXTS byte d / 16777216 % 256 ∷ []
    ≡ 32 ∷ 100 ∷ hex_digit (byte / 16) ∷ hex_digit (byte % 16) ∷ []
text_bytes byte d below =
    let high = digit_small (byte / 16) (omega arith) in
    let low = digit_small (byte % 16) (omega arith) in
    let space : text_of byte % 256 ≡ 32 = omega (arith, high, low) in
    let kind : text_of byte / 256 % 256 ≡ 100 = omega (arith, high, low) in
    let first : text_of byte / 65536 % 256 ≡ hex_digit (byte / 16) = omega (arith, high, low) in
    let second : text_of byte / 16777216 % 256 ≡ hex_digit (byte % 16) = omega (arith, high, low) in
    ap (λ x. x % 256 ∷ x / 256 % 256 ∷ x / 65536 % 256 ∷ x / 16777216 % 256 ∷ [])
    (text_at byte d below)
    ∙ ap₂ (λ a l. a ∷ l) space (ap₂ (λ b l. b ∷ l) kind (ap₂ (λ c e. c ∷ e ∷ []) first second))
