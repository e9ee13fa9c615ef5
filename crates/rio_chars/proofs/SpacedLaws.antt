-- The texts of characters, each behind a space.
use Rattle.std.proofs.Common.{◌≡◌, ◌<◌, ◌≤◌, ◌+◌, ◌-◌, ◌*◌, ◌/◌, ◌%◌, ℕ, List, [], ◌∷◌, ◌++◌, length, take, drop, get_or, set, refl, sym, ap, ◌∙◌, arith, append_assoc, append-nil}
use Rattle.std.proofs.lemmas.List.{take_more, take_more_set, length-set}
use Rattle.std.specs.List.{flat_map}
use Rattle.std.proofs.lemmas.Grind.{common_steps, flat_map-append}
use Rattle.rio_chars.specs.CharText.{char_text_of, spaced_chars}
use Rattle.rio_chars.specs.HexText.{hex_digit}
use Rattle.rio_chars.specs.declared.chars.Char.{Char}
use Rattle.rio_chars.specs.declared.chars.Char.TheVariants.{Data, Special, Invalid}

pub spaced_chars-append : (a b : List Char)
    → spaced_chars (a ++ b) ≡ spaced_chars a ++ spaced_chars b
spaced_chars-append [] b = refl
spaced_chars-append (c ∷ a) b =
    ap (λ l. 32 ∷ char_text_of c ++ l) (spaced_chars-append a b)
    ∙ sym (append_assoc (32 ∷ char_text_of c) (spaced_chars a) (spaced_chars b))

pub spaced_chars-one : (c : Char) → spaced_chars (c ∷ []) ≡ 32 ∷ char_text_of c
spaced_chars-one c = append-nil (32 ∷ char_text_of c)

pub length-spaced_chars : (chars : List Char) → length (spaced_chars chars) ≡ 4 * length chars
length-spaced_chars [] = refl
length-spaced_chars (Data b ∷ chars) = let e = length-spaced_chars chars in omega arith
length-spaced_chars (Special b ∷ chars) = let e = length-spaced_chars chars in omega arith
length-spaced_chars (Invalid ∷ chars) = let e = length-spaced_chars chars in omega arith

-- the first of some characters, and those behind it
pub front_one : (left : List Char) (d : Char) → 1 ≤ length left
    → left ≡ get_or left 0 d ∷ take (length left - 1) (drop 1 left)
front_one [] d some = absurd (omega arith)
front_one (c ∷ left) d some =
    let all : take (length (c ∷ left) - 1) left ≡ left = grind (arith, common_steps) in
    ap (λ l. c ∷ l) (sym all)

-- the word of one data character more
pub words-step : (words : List (List ℕ)) (chars : List Char) (i byte : ℕ) (d : Char)
    → i < length words → i < length chars → get_or chars i d ≡ Data byte
    → flat_map (λ word. word) (take i words) ≡ spaced_chars (take i chars)
    → flat_map (λ word. word) (take (i + 1) (set words i
    (32 ∷ 100 ∷ hex_digit (byte / 16) ∷ hex_digit (byte % 16) ∷ [])))
    ≡ spaced_chars (take (i + 1) chars)
words-step words chars i byte d below within here e =
    let word = 32 ∷ 100 ∷ hex_digit (byte / 16) ∷ hex_digit (byte % 16) ∷ [] in
    ap (flat_map (λ word. word)) (take_more_set words i word below)
    ∙ flat_map-append (λ word. word) (take i words) (word ∷ [])
    ∙ ap (λ l. l ++ word) e
    ∙ ap (λ l. spaced_chars (take i chars) ++ l) (sym (spaced_chars-one (Data byte)))
    ∙ sym (spaced_chars-append (take i chars) (Data byte ∷ []))
    ∙ ap (λ c. spaced_chars (take i chars ++ c ∷ [])) (sym here)
    ∙ ap spaced_chars (sym (take_more chars i d within))

-- the word of a data character
abbrev word_of : ℕ → List ℕ
word_of byte = 32 ∷ 100 ∷ hex_digit (byte / 16) ∷ hex_digit (byte % 16) ∷ []

-- the words of four data characters more
pub words-four : (words : List (List ℕ)) (chars : List Char) (i w x y z : ℕ) (d e f g : Char)
    → i + 4 ≤ length words → i + 4 ≤ length chars
    → get_or chars i d ≡ Data w → get_or chars (i + 1) e ≡ Data x
    → get_or chars (i + 2) f ≡ Data y → get_or chars (i + 3) g ≡ Data z
    → flat_map (λ word. word) (take i words) ≡ spaced_chars (take i chars)
    → flat_map (λ word. word) (take (i + 4) (set (set (set
    (set words i (word_of w)) (i + 1) (word_of x)) (i + 2) (word_of y)) (i + 3) (word_of z)))
    ≡ spaced_chars (take (i + 4) chars)
words-four words chars i w x y z d e f g below within here second third fourth so_far =
    let one = set words i (word_of w) in
    let two = set one (i + 1) (word_of x) in
    let three = set two (i + 2) (word_of y) in
    let size_one : length one ≡ length words = length-set words i (word_of w) in
    let size_two : length two ≡ length words = length-set one (i + 1) (word_of x) ∙ size_one in
    let size_three : length three ≡ length words =
    length-set two (i + 2) (word_of y) ∙ size_two in
    let after_one =
    words-step words chars i w d (omega arith) (omega arith) here so_far in
    let after_two = words-next one chars (i + 1) (i + 2) x e (omega arith)
    (omega (arith, size_one)) (omega arith) second after_one in
    let after_three = words-next two chars (i + 2) (i + 3) y f (omega arith)
    (omega (arith, size_two)) (omega arith) third after_two in
    words-next three chars (i + 3) (i + 4) z g (omega arith) (omega (arith, size_three))
    (omega arith) fourth after_three
  where
    words-next : (words : List (List ℕ)) (chars : List Char) (i j byte : ℕ) (d : Char) → j ≡ i + 1
        → i < length words → i < length chars → get_or chars i d ≡ Data byte
        → flat_map (λ word. word) (take i words) ≡ spaced_chars (take i chars)
        → flat_map (λ word. word) (take j (set words i (word_of byte)))
        ≡ spaced_chars (take j chars)
    words-next words chars i j byte d next below within here so_far =
        rw next (words-step words chars i byte d below within here so_far)
