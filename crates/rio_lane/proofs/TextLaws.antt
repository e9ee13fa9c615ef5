-- Texts of characters and groups: what is told is read as the same.
use Rattle.std.proofs.Common.{◌≡◌, ◌≢◌, ℕ, zero, suc, ◌+◌, ◌-◌, ◌*◌, ◌/◌, ◌%◌, ◌^◌, ◌<◌, ◌==◌, nat_le, true, false, List, [], ◌∷◌, ◌++◌, map, refl, sym, ap, ◌∙◌, subst, inl, inr, arith, append-nil, true≢false}
use Rattle.std.specs.List.{slice_split, join_with_byte}
use Rattle.std.proofs.lemmas.List.Elements.{All-nil, All-cons, All-head, All-tail}
use Rattle.std.proofs.lemmas.Bool.Decides.{nat_tests}
use Rattle.std.proofs.Math.Nat.{pow-succ'}
use Rattle.rio_chars.specs.HexText.{hex_digit, hex_of}
use Rattle.rio_chars.specs.CharText.{char_text_of, spaced_chars}
use Rattle.rio_chars.specs.declared.chars.Char.{Char}
use Rattle.rio_chars.specs.declared.chars.Char.TheVariants.{Data, Special, Invalid}
use Rattle.rio_chars.proofs.CharLaws.{char_text_of-injective}
use Rattle.code_groups.specs.Streams.{HaveTenBits}
use Rattle.group_text.specs.GroupTexts.{binary_digits, group_text_of, spaced_groups}
use Rattle.group_text.proofs.DigitLaws.{AreBinary, digits_binary}
use Rattle.fabric_script.proofs.Joins.{is_visible, AreVisible, split_join, join_lacks}
use Rattle.fabric_script.proofs.Points.{Lacks}
use Rattle.live_lines.specs.Lines.{HasNoFeed}
use Rattle.rio_lane.specs.LaneAnswers.{text_words, joined_groups, joined_chars}

-- texts of characters are visible
visible_hex_digit : (n : ℕ) → nat_le 33 (hex_digit n) ≡ true
visible_hex_digit n = grind (arith, nat_tests)

visible_hex_of : (bytes : List ℕ) → is_visible (hex_of bytes) ≡ true
visible_hex_of [] = refl
visible_hex_of (b ∷ bytes) =
    rw (visible_hex_digit (b / 16), visible_hex_digit (b % 16), visible_hex_of bytes)

visible_char : (c : Char) → is_visible (char_text_of c) ≡ true
visible_char (Data byte) = visible_hex_of (byte ∷ [])
visible_char (Special byte) = visible_hex_of (byte ∷ [])
visible_char Invalid = refl

visible_chars : (chars : List Char) → AreVisible (map char_text_of chars)
visible_chars [] = tt
visible_chars (c ∷ chars) = (visible_char c, visible_chars chars)

-- and so are those of groups
visible_binary : (digits : List ℕ) → AreBinary digits → is_visible digits ≡ true
visible_binary [] h = refl
visible_binary (d ∷ digits) h =
    let rest = visible_binary digits h.1 in
    elim h.0 [
      | inl e ↦ let here : nat_le 33 d ≡ true = ap (nat_le 33) e in rw (here, rest)
      | inr e ↦ let here : nat_le 33 d ≡ true = ap (nat_le 33) e in rw (here, rest)
    ]

visible_group : (group : ℕ) → is_visible (group_text_of group) ≡ true
visible_group group = visible_binary (group_text_of group) (digits_binary 10 group)

visible_groups : (groups : List ℕ) → AreVisible (map group_text_of groups)
visible_groups [] = tt
visible_groups (group ∷ groups) = (visible_group group, visible_groups groups)

-- texts that are told one after another are joined
chars_join : (c : Char) (chars : List Char)
    → char_text_of c ++ spaced_chars chars ≡ join_with_byte 32 (map char_text_of (c ∷ chars))
chars_join c [] = append-nil (char_text_of c)
chars_join c (d ∷ chars) = ap (λ (t : List ℕ). char_text_of c ++ 32 ∷ t) (chars_join d chars)

groups_join : (group : ℕ) (groups : List ℕ)
    → group_text_of group ++ spaced_groups groups
    ≡ join_with_byte 32 (map group_text_of (group ∷ groups))
groups_join group [] = append-nil (group_text_of group)
groups_join group (next ∷ groups) =
    ap (λ (t : List ℕ). group_text_of group ++ 32 ∷ t) (groups_join next groups)

-- a text with a first byte has words
words_by_first : (byte : ℕ) (bytes text : List ℕ) → text ≡ byte ∷ bytes
    → text_words text ≡ slice_split (λ b. b == 32) text
words_by_first byte bytes text e =
    ap text_words e ∙ sym (ap (slice_split (λ b. b == 32)) e)

words_char : (c : Char) (rest : List ℕ)
    → text_words (char_text_of c ++ rest) ≡ slice_split (λ b. b == 32) (char_text_of c ++ rest)
words_char (Data byte) rest = refl
words_char (Special byte) rest = refl
words_char Invalid rest = refl

pub words_of_chars : (chars : List Char) → text_words (joined_chars chars) ≡ map char_text_of chars
words_of_chars [] = refl
words_of_chars (c ∷ chars) =
    words_char c (spaced_chars chars)
    ∙ ap (slice_split (λ b. b == 32)) (chars_join c chars)
    ∙ split_join (char_text_of c) (map char_text_of chars) (visible_char c) (visible_chars chars)

pub words_of_groups : (groups : List ℕ)
    → text_words (joined_groups groups) ≡ map group_text_of groups
words_of_groups [] = refl
words_of_groups (group ∷ groups) =
    words_by_first _ _ (joined_groups (group ∷ groups)) refl
    ∙ ap (slice_split (λ b. b == 32)) (groups_join group groups)
    ∙ split_join (group_text_of group) (map group_text_of groups) (visible_group group)
    (visible_groups groups)

-- no text has a line feed
no_feed : (bytes : List ℕ) → Lacks 10 bytes → HasNoFeed bytes
no_feed [] h = All-nil (λ byte. byte ≢ 10)
no_feed (b ∷ bytes) h =
    let here : (b == 10) ≡ false = All-head (λ byte. (byte == 10) ≡ false) b bytes h in
    All-cons (λ byte. byte ≢ 10) b bytes
    (λ e. true≢false (sym (ap (λ (n : ℕ). n == 10) e) ∙ here))
    (no_feed bytes (All-tail (λ byte. (byte == 10) ≡ false) b bytes h))

pub groups_no_feed : (groups : List ℕ) → HasNoFeed (joined_groups groups)
groups_no_feed [] = All-nil (λ byte. byte ≢ 10)
groups_no_feed (group ∷ groups) =
    subst HasNoFeed (sym (groups_join group groups))
    (no_feed (join_with_byte 32 (map group_text_of (group ∷ groups)))
    (join_lacks (group_text_of group) (map group_text_of groups) (visible_group group)
    (visible_groups groups)))

-- words are those of no other characters
pub same_chars : (xs ys : List Char) → map char_text_of xs ≡ map char_text_of ys → xs ≡ ys
same_chars [] [] e = refl
same_chars [] (y ∷ ys) e = absurd cc
same_chars (x ∷ xs) [] e = absurd cc
same_chars (x ∷ xs) (y ∷ ys) e =
    let first : char_text_of x ≡ char_text_of y = cc in
    let rest : map char_text_of xs ≡ map char_text_of ys = cc in
    ap (λ (c : Char). c ∷ xs) (char_text_of-injective x y first)
    ∙ ap (λ (l : List Char). y ∷ l) (same_chars xs ys rest)

-- the number of binary digits
digits_value : ℕ → List ℕ → ℕ
digits_value so_far [] = so_far
digits_value so_far (d ∷ digits) = digits_value (2 * so_far + (d - 48)) digits

value_both : (so_far : ℕ) (xs ys : List ℕ)
    → digits_value so_far (xs ++ ys) ≡ digits_value (digits_value so_far xs) ys
unfolding digits_value
value_both so_far [] ys = refl
value_both so_far (x ∷ xs) ys = value_both (2 * so_far + (x - 48)) xs ys

value_of_digits : (width number : ℕ) → number < 2 ^ width
    → digits_value 0 (binary_digits width number) ≡ number
unfolding digits_value
value_of_digits zero number low = let e : number ≡ 0 = omega arith in sym e
value_of_digits (suc width) number low =
    let power : 2 ^ suc width ≡ 2 * 2 ^ width = pow-succ' 2 width in
    let half : number / 2 < 2 ^ width = omega (arith, power, low) in
    value_both 0 (binary_digits width (number / 2)) ((48 + number % 2) ∷ [])
    ∙ ap (λ (n : ℕ). 2 * n + (48 + number % 2 - 48)) (value_of_digits width (number / 2) half)
    ∙ omega arith

same_group : (x y : ℕ) → x < 1024 → y < 1024 → group_text_of x ≡ group_text_of y → x ≡ y
same_group x y low_x low_y e =
    sym (value_of_digits 10 x low_x) ∙ ap (digits_value 0) e ∙ value_of_digits 10 y low_y

pub same_groups : (xs ys : List ℕ) → HaveTenBits xs → HaveTenBits ys
    → map group_text_of xs ≡ map group_text_of ys → xs ≡ ys
same_groups [] [] tens_x tens_y e = refl
same_groups [] (y ∷ ys) tens_x tens_y e = absurd cc
same_groups (x ∷ xs) [] tens_x tens_y e = absurd cc
same_groups (x ∷ xs) (y ∷ ys) tens_x tens_y e =
    let first : group_text_of x ≡ group_text_of y = heads_same _ _ _ _ e in
    let rest : map group_text_of xs ≡ map group_text_of ys = tails_same _ _ _ _ e in
    ap (λ (g : ℕ). g ∷ xs) (same_group x y tens_x.0 tens_y.0 first)
    ∙ ap (λ (l : List ℕ). y ∷ l) (same_groups xs ys tens_x.1 tens_y.1 rest)
  where
    heads_same : (a b : List ℕ) (more others : List (List ℕ)) → a ∷ more ≡ b ∷ others → a ≡ b
    heads_same a b more others e = cc

    tails_same : (a b : List ℕ) (more others : List (List ℕ)) → a ∷ more ≡ b ∷ others
        → more ≡ others
    tails_same a b more others e = cc
