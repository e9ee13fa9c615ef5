-- Each input of `decode` is characters, or one of its lines is the first that has another word.
use Rattle.std.proofs.Common.{◌≡◌, ◌≢◌, ℕ, ◌+◌, ◌<◌, ◌⊎◌, inl, inr, List, [], ◌∷◌, ◌++◌, length, refl, ap}
use Rattle.std.specs.List.{flat_map}
use Rattle.rio_chars.specs.CharText.{char_text_of, HasByte}
use Rattle.rio_chars.specs.Lines.{text_lines}
use Rattle.rio_chars.specs.declared.chars.Char.{Char}
use Rattle.rio_chars.specs.declared.chars.Char.TheVariants.{Data, Special, Invalid}
use Rattle.script_law.proofs.Choosing.{first_or_none, same_or_not}
use Rattle.rio_cli.specs.Decoding.{words_in_line, AreTexts, AreSpelled, SpellsChars, BadWordAt}
use Rattle.rio_cli.proofs.WordLaws.{AreTexts-append}

-- the word is the text of a character of a byte, or of none
abbrev OfByte : (ℕ → Char) → List ℕ → ℕ → Type 0
OfByte kind word bound = (byte : ℕ) × (byte < bound) × (word ≡ char_text_of (kind byte))

abbrev OfNoByte : (ℕ → Char) → List ℕ → ℕ → Type 0
OfNoByte kind word bound = (byte : ℕ) → byte < bound → word ≢ char_text_of (kind byte)

byte_or_none : (kind : ℕ → Char) (word : List ℕ) (bound : ℕ)
    → OfByte kind word bound ⊎ OfNoByte kind word bound
byte_or_none kind word bound = elim (first_or_none (λ byte. word ≡ char_text_of (kind byte))
    (λ byte. same_or_not word (char_text_of (kind byte))) bound) [
      | inl found ↦ inl (found.n, found.below, found.is)
      | inr none ↦ inr none
    ]

-- the word is the text of a character
abbrev IsText : List ℕ → Type 0
IsText word = (c : Char) × HasByte c × (word ≡ char_text_of c)

text_or_not : (word : List ℕ) → IsText word ⊎ (IsText word → ⊥)
text_or_not word = elim (same_or_not word (char_text_of Invalid)) [
  | inl same ↦ inl (Invalid, tt, same)
  | inr not_invalid ↦ elim (byte_or_none (λ byte. Data byte) word 256) [
    | inl data_of ↦ inl (Data data_of.0, data_of.1, data_of.2)
    | inr not_data ↦ elim (byte_or_none (λ byte. Special byte) word 256) [
      | inl special ↦ inl (Special special.0, special.1, special.2)
      | inr not_special ↦ inr (λ is. none not_invalid not_data not_special is.0 is.1 is.2)
    ]
  ]
]
  where
    none : word ≢ char_text_of Invalid → OfNoByte (λ byte. Data byte) word 256
        → OfNoByte (λ byte. Special byte) word 256
        → (c : Char) → HasByte c → word ≢ char_text_of c
    none not_invalid not_data not_special (Data byte) has e = not_data byte has e
    none not_invalid not_data not_special (Special byte) has e = not_special byte has e
    none not_invalid not_data not_special Invalid has e = not_invalid e

spelled_or_not : (words : List (List ℕ)) → AreSpelled words ⊎ (AreSpelled words → ⊥)
spelled_or_not [] = inl ([], tt)
spelled_or_not (word ∷ words) = elim (text_or_not word) [
  | inl first ↦ elim (spelled_or_not words) [
    | inl rest ↦ inl (first.0 ∷ rest.0, (first.1, first.2, rest.1))
    | inr none ↦ inr (λ are. not_rest none are.0 are.1)
  ]
  | inr none ↦ inr (λ are. not_first none are.0 are.1)
]
  where
    not_rest : (AreSpelled words → ⊥) → (chars : List Char) → AreTexts (word ∷ words) chars → ⊥
    not_rest none [] are = are
    not_rest none (c ∷ chars) are = none (chars, are.2)

    not_first : (IsText word → ⊥) → (chars : List Char) → AreTexts (word ∷ words) chars → ⊥
    not_first none [] are = are
    not_first none (c ∷ chars) are = none (c, are.0, are.1)

-- one of the lines is the first that has a word which is no character
record FirstBad (lines : List (List ℕ)) : Type 0 where
  before : List (List ℕ)
  text : List ℕ
  behind : List (List ℕ)
  split : lines ≡ before ++ text ∷ behind
  spelled : AreSpelled (flat_map words_in_line before)
  bad : AreSpelled (words_in_line text) → ⊥

with_first : (line : List ℕ) (lines : List (List ℕ)) → AreSpelled (words_in_line line)
    → AreSpelled (flat_map words_in_line lines)
    → AreSpelled (flat_map words_in_line (line ∷ lines))
with_first line lines first rest = (
  first.0 ++ rest.0,
  AreTexts-append (words_in_line line) (flat_map words_in_line lines) first.0 rest.0 first.1
      rest.1,
)

spelled_or_bad : (lines : List (List ℕ))
    → AreSpelled (flat_map words_in_line lines) ⊎ FirstBad lines
spelled_or_bad [] = inl ([], tt)
spelled_or_bad (line ∷ lines) = elim (spelled_or_not (words_in_line line)) [
  | inl first ↦ elim (spelled_or_bad lines) [
    | inl rest ↦ inl (with_first line lines first rest)
    | inr found ↦ inr record {
      before = line ∷ found.before;
      text = found.text;
      behind = found.behind;
      split = ap (λ ls. line ∷ ls) found.split;
      spelled = with_first line found.before first found.spelled;
      bad = found.bad;
    }
  ]
  | inr none ↦ inr record {
    before = [];
    text = line;
    behind = lines;
    split = refl;
    spelled = ([], tt);
    bad = none;
  }
]

pub decoded_or_bad : (bytes : List ℕ)
    → ((chars : List Char) × SpellsChars bytes chars) ⊎ ((line : ℕ) × BadWordAt bytes line)
decoded_or_bad bytes = elim (spelled_or_bad (text_lines bytes)) [
  | inl spelled ↦ inl spelled
  | inr found ↦ inr (
    length found.before + 1,
    record {
      before = found.before;
      text = found.text;
      behind = found.behind;
      split = found.split;
      spelled = found.spelled;
      bad = found.bad;
      place = refl;
    },
  )
]
