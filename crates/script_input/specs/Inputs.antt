-- The lines of bytes: those of the set-up, a line `---`, and those behind it.
use Rattle.std.specs.Prelude.{◌≡◌, ℕ, ◌+◌, ◌++◌, Bool, nat_eq, codes, List, [], ◌∷◌, length, Option, Some, None, if◌then◌else◌}
use denote.Ref.{Bor}
use Rattle.std.specs.List.{flat_map}
use Rattle.std.specs.Cmp.Lexicographic.{pointwise}
use Rattle.fabric_script.specs.declared.lines.Numbered.{Numbered}
use Rattle.fabric_script.specs.Known.{Known, nothing_in, of_set_up}
use Rattle.fabric_script.specs.Scripts.{pieces_of, RefusedIn, SpellsFrom}
use Rattle.fabric_script.specs.SetUps.{for_event}

-- without an empty text at the end, which stands behind a final line feed
abbrev pub without_empty_end : List (List ℕ) → List (List ℕ)
without_empty_end [] = []
without_empty_end ([] ∷ []) = []
without_empty_end ((byte ∷ bytes) ∷ []) = (byte ∷ bytes) ∷ []
without_empty_end (text ∷ next ∷ texts) = text ∷ without_empty_end (next ∷ texts)

-- the lines of bytes, without their line feeds
abbrev pub texts_of : List ℕ → List (List ℕ)
texts_of bytes = without_empty_end (pieces_of bytes)

-- a first line and the bytes behind it, as lines
abbrev pub texts_ahead : Option (Bor (List ℕ) × Bor (List ℕ)) → List (List ℕ)
texts_ahead None = []
texts_ahead (Some found) = found.0.now ∷ texts_of found.1.now

-- the line between the set-up lines and the others
abbrev pub is_between : List ℕ → Bool
is_between text = pointwise nat_eq text (codes "---")

-- the lines before the first such line
abbrev pub set_up_texts : List (List ℕ) → List (List ℕ)
set_up_texts [] = []
set_up_texts (text ∷ texts) = if is_between text then [] else text ∷ set_up_texts texts

-- the lines behind it, if there is one
abbrev pub texts_behind : List (List ℕ) → Option (List (List ℕ))
texts_behind [] = None
texts_behind (text ∷ texts) = if is_between text then Some texts else texts_behind texts

-- lines as bytes, each with a line feed
abbrev pub lines_fed : List (List ℕ) → List ℕ
lines_fed texts = flat_map (λ text. text ++ 10 ∷ []) texts

abbrev pub set_up_by : Option (List (List ℕ)) → List ℕ → List ℕ
set_up_by None bytes = bytes
set_up_by (Some texts) bytes = lines_fed (set_up_texts (texts_of bytes))

-- the bytes of the set-up lines: all, if there is no line between
abbrev pub set_up_bytes : List ℕ → List ℕ
set_up_bytes bytes = set_up_by (texts_behind (texts_of bytes)) bytes

-- The bytes are set-up lines that no reason hits, and so much is known behind them.
pub record IsAccepted (bytes : List ℕ) (lines : List Numbered) (known : Known) : Type 0 where
  pub end : Known
  pub spelled : SpellsFrom 1 (nothing_in of_set_up) (pieces_of (set_up_bytes bytes)) lines end
  pub known_is : known ≡ for_event end

-- they are, and these are the lines behind the line between
pub record IsInput (bytes : List ℕ) (lines : List Numbered) (known : Known)
    (texts : List (List ℕ)) : Type 0 where
  pub accepted : IsAccepted bytes lines known
  pub behind : texts_behind (texts_of bytes) ≡ Some texts

-- The set-up lines are refused; or none of them is, and the line `---` is missing, which is told at
-- the line after the last.
pub data IsRefusedInput (bytes : List ℕ) : (line reason : ℕ) → Type 0 where
  Hit : {line reason : ℕ} → RefusedIn of_set_up (set_up_bytes bytes) line reason
      → IsRefusedInput bytes line reason
  NotParted : {lines : List Numbered} {known : Known} → IsAccepted bytes lines known
      → texts_behind (texts_of bytes) ≡ None
      → IsRefusedInput bytes (length (texts_of bytes) + 1) 15
