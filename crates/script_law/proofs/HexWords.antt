-- A word says bytes, or none; and a character, or none.
use Rattle.std.proofs.Common.{◌≡◌, ◌≢◌, ℕ, ◌<◌, ◌/◌, ◌%◌, List, [], ◌∷◌, codes, refl, ◌⊎◌, inl, inr}
use Rattle.std.proofs.lemmas.Bool.{cases_eq}
use Rattle.std.proofs.lemmas.List.Elements.{All-nil, All-cons, All-head, All-tail}
use Rattle.rio_chars.specs.HexText.{hex_digit, hex_of}
use Rattle.rio_chars.specs.CharText.{char_text_of, HasByte}
use Rattle.rio_chars.specs.declared.chars.Char.{Char}
use Rattle.rio_chars.specs.declared.chars.Char.TheVariants.{Data, Special, Invalid}
use Rattle.fabric_script.specs.declared.reasons.Reason.TheVariants.{BadHex}
use Rattle.fabric_script.specs.declared.fields.Field.TheVariants.{Hex, Character}
use Rattle.fabric_script.specs.declared.values.Value.TheVariants.{Bytes, Code}
use Rattle.fabric_script.specs.Texts.{hex_text}
use Rattle.fabric_script.specs.Known.{Known}
use Rattle.fabric_script.specs.Hits.{HexIsBad, CharacterIsBad}
use Rattle.fabric_script.proofs.HexWords.{IsBytes, no_hex}
use Rattle.script_law.proofs.Choosing.{both_or_not, same_or_not, First, first_or_none}
use Rattle.script_law.proofs.NumberWords.{SaysOrHit}

-- two digits are those of a byte
abbrev AreOf : ℕ → ℕ → ℕ → Type 0
AreOf high low byte = (high ≡ hex_digit (byte / 16)) × (low ≡ hex_digit (byte % 16))

byte_or_none : (high low : ℕ)
    → First (AreOf high low) 256 ⊎ ((byte : ℕ) → byte < 256 → AreOf high low byte → ⊥)
byte_or_none high low = first_or_none (AreOf high low) (λ byte. both_or_not
    (cases_eq high (hex_digit (byte / 16))) (cases_eq low (hex_digit (byte % 16)))) 256

-- the word is so many digits
abbrev Spelled : List ℕ → Type 0
Spelled word = (bytes : List ℕ) × IsBytes bytes × (word ≡ hex_of bytes)

abbrev IsNone : List ℕ → Type 0
IsNone word = (bytes : List ℕ) → IsBytes bytes → word ≢ hex_of bytes

bytes_or_none : (word : List ℕ) → Spelled word ⊎ IsNone word
bytes_or_none [] = inl ([], All-nil (λ byte. byte < 256), refl)
bytes_or_none (high ∷ []) = inr not_one
  where
    not_one : IsNone (high ∷ [])
    not_one [] is e = cc
    not_one (byte ∷ bytes) is e = cc
bytes_or_none (high ∷ low ∷ word) = elim (byte_or_none high low) [
  | inl found ↦ elim (bytes_or_none word) [
    | inl rest ↦
        let first = found.is.0 in
        let second = found.is.1 in
        let behind = rest.2 in
        inl (
          found.n ∷ rest.0,
          All-cons (λ byte. byte < 256) found.n rest.0 found.below rest.1,
          cc,
        )
    | inr none ↦ inr (no_rest none)
  ]
  | inr none ↦ inr (no_byte none)
]
  where
    no_rest : IsNone word → IsNone (high ∷ low ∷ word)
    no_rest none [] is e = cc
    no_rest none (byte ∷ bytes) is e = none bytes (All-tail (λ b. b < 256) byte bytes is) cc

    no_byte : ((byte : ℕ) → byte < 256 → AreOf high low byte → ⊥) → IsNone (high ∷ low ∷ word)
    no_byte none [] is e = cc
    no_byte none (byte ∷ bytes) is e =
        none byte (All-head (λ b. b < 256) byte bytes is) (cc, cc)

pub hex_or_hit : (known : Known) (word : List ℕ) → SaysOrHit known Hex (λ bytes. Bytes bytes) word
hex_or_hit known word = elim (same_or_not word (codes "-")) [
  | inl hyphen ↦ inl ([], All-nil (λ byte. byte < 256), hyphen)
  | inr other ↦ elim (bytes_or_none word) [
    | inl spelled ↦ by_bytes other spelled.0 spelled.1 spelled.2
    | inr none ↦ inr (BadHex, HexIsBad (no_hex word other none))
  ]
]
  where
    empty : word ≢ codes "-" → word ≡ [] → (bytes : List ℕ) → IsBytes bytes → word ≢ hex_text bytes
    empty other none [] is e = other e
    empty other none (byte ∷ bytes) is e = cc

    by_bytes : word ≢ codes "-" → (bytes : List ℕ) → IsBytes bytes → word ≡ hex_of bytes
        → SaysOrHit known Hex (λ bytes. Bytes bytes) word
    by_bytes other [] is e = inr (BadHex, HexIsBad (empty other e))
    by_bytes other (byte ∷ bytes) is e = inl (byte ∷ bytes, is, e)

pub character_or_hit : (known : Known) (word : List ℕ)
    → SaysOrHit known Character (λ c. Code c) word
character_or_hit known word = elim (same_or_not word (char_text_of Invalid)) [
  | inl same ↦ inl (Invalid, tt, same)
  | inr not_invalid ↦ elim (of_kind (λ byte. Data byte)) [
    | inl data_of ↦ inl (Data data_of.n, data_of.below, data_of.is)
    | inr not_data ↦ elim (of_kind (λ byte. Special byte)) [
      | inl special ↦ inl (Special special.n, special.below, special.is)
      | inr not_special ↦ inr (BadHex, CharacterIsBad (none not_invalid not_data not_special))
    ]
  ]
]
  where
    of_kind : (kind : ℕ → Char) → First (λ byte. word ≡ char_text_of (kind byte)) 256
        ⊎ ((byte : ℕ) → byte < 256 → word ≢ char_text_of (kind byte))
    of_kind kind = first_or_none (λ byte. word ≡ char_text_of (kind byte))
        (λ byte. same_or_not word (char_text_of (kind byte))) 256

    none : word ≢ char_text_of Invalid
        → ((byte : ℕ) → byte < 256 → word ≢ char_text_of (Data byte))
        → ((byte : ℕ) → byte < 256 → word ≢ char_text_of (Special byte))
        → (c : Char) → HasByte c → word ≢ char_text_of c
    none not_invalid not_data not_special (Data byte) has e = not_data byte has e
    none not_invalid not_data not_special (Special byte) has e = not_special byte has e
    none not_invalid not_data not_special Invalid has e = not_invalid e
