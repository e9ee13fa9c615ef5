-- What is said of a line of characters of which a word is none.
use Rattle.std.specs.Prelude.{◌≡◌, ◌≢◌, ◌⊎◌, ◌==◌, ℕ, List, [], ◌∷◌, ◌++◌, Contains, codes}
use Rattle.std.specs.List.{slice_split}
use Rattle.rio_chars.specs.CharText.{char_text_of, HasByte}
use Rattle.rio_chars.specs.declared.chars.Char.{Char}
use Rattle.refusal_words.specs.Citing.{shown_text}

-- the word stands in the line, and is no character
pub record IsNoCharacter (text word : List ℕ) : Type 0 where
  pub there : Contains (slice_split (λ byte. byte == 32) text) word
  pub some : word ≢ []
  pub bad : (c : Char) → HasByte c → word ≢ char_text_of c

abbrev pub no_character_text : List ℕ → List ℕ
no_character_text word = shown_text word
    ++ codes " is no character: d or k and two lower-case hexadecimal digits, or inv"

-- what is to blame: a carriage return at its end, a word, or one of its words
abbrev pub IsCharsWhy : List ℕ → List ℕ → Type 0
IsCharsWhy text why =
    ((front : List ℕ) × (text ≡ front ++ 13 ∷ [])
    × (why ≡ codes "the line ends with a carriage return"))
    ⊎ (((word : List ℕ) × IsNoCharacter text word × (why ≡ no_character_text word))
    ⊎ (why ≡ codes "a word of this line is not a character"))
