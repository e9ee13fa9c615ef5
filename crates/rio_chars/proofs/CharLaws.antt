-- No text is that of two characters.
use Rattle.std.proofs.Common.{◌≡◌, ℕ, List, get_or, ap, refl, arith, [], ◌∷◌}
use Rattle.rio_chars.specs.CharText.{char_text_of}
use Rattle.rio_chars.proofs.HexLaws.{hex_of-injective}
use Rattle.rio_chars.specs.declared.chars.Char.{Char}
use Rattle.rio_chars.specs.declared.chars.Char.TheVariants.{Data, Special, Invalid}

pub char_text_of-injective : (a b : Char) → char_text_of a ≡ char_text_of b → a ≡ b
char_text_of-injective (Data x) (Data y) e = let same = hex_of-injective (x ∷ []) (y ∷ []) cc in cc
char_text_of-injective (Special x) (Special y) e =
    let same = hex_of-injective (x ∷ []) (y ∷ []) cc in cc
char_text_of-injective Invalid Invalid e = refl
char_text_of-injective (Data x) (Special y) e =
    let first = ap (λ (l : List ℕ). get_or l 0 0) e in absurd (omega arith)
char_text_of-injective (Data x) Invalid e =
    let first = ap (λ (l : List ℕ). get_or l 0 0) e in absurd (omega arith)
char_text_of-injective (Special x) (Data y) e =
    let first = ap (λ (l : List ℕ). get_or l 0 0) e in absurd (omega arith)
char_text_of-injective (Special x) Invalid e =
    let first = ap (λ (l : List ℕ). get_or l 0 0) e in absurd (omega arith)
char_text_of-injective Invalid (Data y) e =
    let first = ap (λ (l : List ℕ). get_or l 0 0) e in absurd (omega arith)
char_text_of-injective Invalid (Special y) e =
    let first = ap (λ (l : List ℕ). get_or l 0 0) e in absurd (omega arith)
