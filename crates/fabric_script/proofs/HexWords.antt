-- Words of hexadecimal digits.
use Rattle.std.proofs.Common.{◌≡◌, ◌≢◌, ℕ, ◌/◌, ◌%◌, ◌<◌, List, [], ◌∷◌, All, codes, refl, ap, subst, arith}
use Rattle.rio_chars.specs.HexText.{hex_digit, hex_of}
use Rattle.rio_chars.proofs.HexLaws.{hex_digit-injective, hex_of-injective}
use Rattle.fabric_script.specs.Texts.{hex_text}

abbrev pub IsBytes : List ℕ → Type 0
IsBytes bytes = All (λ byte. byte < 256) bytes

pub hex_text-injective : (a b : List ℕ) → hex_text a ≡ hex_text b → a ≡ b
hex_text-injective [] [] e = refl
hex_text-injective [] (y ∷ ys) e = absurd cc
hex_text-injective (x ∷ xs) [] e = absurd cc
hex_text-injective (x ∷ xs) (y ∷ ys) e = hex_of-injective (x ∷ xs) (y ∷ ys) e

-- a word that is neither a hyphen nor digits spells no bytes
pub no_hex : (word : List ℕ) → word ≢ codes "-"
    → ((bytes : List ℕ) → IsBytes bytes → word ≢ hex_of bytes) → (bytes : List ℕ) → IsBytes bytes
    → word ≢ hex_text bytes
no_hex word other none [] is e = other e
no_hex word other none (b ∷ bs) is e = none (b ∷ bs) is e

-- a digit behind a 0 spells its own value
pub low_digit : (digit byte : ℕ) → byte < 256 → 48 ∷ digit ∷ [] ≡ hex_of (byte ∷ []) → (byte < 16)
    × (digit ≡ hex_digit byte)
low_digit digit byte below e =
    let high : hex_digit 0 ≡ hex_digit (byte / 16) = cc in
    let zero : 0 ≡ byte / 16 = hex_digit-injective 0 (byte / 16) high in
    let small : byte < 16 = omega arith in
    let same : byte % 16 ≡ byte = omega arith in
    let low : digit ≡ hex_digit (byte % 16) = cc in
    (small, subst (λ n. digit ≡ hex_digit n) same low)

pub no_low_digit : (digit : ℕ) → ((byte : ℕ) → byte < 256 → 48 ∷ digit ∷ [] ≢ hex_of (byte ∷ []))
    → (value : ℕ) → value < 16 → digit ≢ hex_digit value
no_low_digit digit none value small e = none value (omega arith) spelled
  where
    spelled : 48 ∷ digit ∷ [] ≡ hex_of (value ∷ [])
    spelled =
        let high : value / 16 ≡ 0 = omega arith in
        let low : value % 16 ≡ value = omega arith in
        rw (high, low) (ap (λ d. 48 ∷ d ∷ []) e)
