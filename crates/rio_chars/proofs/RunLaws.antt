-- Runs of data characters that are compared.
use Rattle.std.proofs.Common.{◌≡◌, ◌≤◌, ◌<◌, ◌+◌, ◌-◌, ◌&&◌, ℕ, Bool, true, false, List, length, take, drop, get_or, nat_eq, refl, sym, ap, ◌∙◌, arith, ◌++◌}
use Rattle.std.proofs.Math.Seq.{take-add}
use Rattle.std.proofs.lemmas.Bool.{eqb-true}
use Rattle.std.proofs.lemmas.List.{take_more_same}
use Rattle.std.specs.List.{slice_range}
use Rattle.rio_chars.specs.declared.chars.Char.{Char}
use Rattle.rio_chars.specs.declared.chars.Char.TheVariants.{Data, Special, Invalid}
use Rattle.rio_chars.specs.DataChars.{is_data_char, byte_of_char}

-- what is data is the character of its byte
pub data-by-its-byte : (c : Char) → is_data_char c ≡ true → c ≡ Data (byte_of_char c)
data-by-its-byte (Data byte) e = refl
data-by-its-byte (Special byte) e = absurd cc
data-by-its-byte Invalid e = absurd cc

-- what holds of four tests together
all_four : (a b c d : Bool) → (((a && b) && c) && d) ≡ true
    → (a ≡ true) × (b ≡ true) × (c ≡ true) × (d ≡ true)
all_four true true true true e = (refl, refl, refl, refl)
all_four true true true false e = absurd cc
all_four true true false d e = absurd cc
all_four true false c d e = absurd cc
all_four false b c d e = absurd cc

-- one data character more is the same
pub same-data-more : (some others : List Char) (i : ℕ) (d : Char) (so_far : Bool)
    → i < length some → i < length others
    → (so_far ≡ true → take i some ≡ take i others)
    → (((so_far && is_data_char (get_or some i d)) && is_data_char (get_or others i d))
    && nat_eq (byte_of_char (get_or some i d)) (byte_of_char (get_or others i d))) ≡ true
    → take (i + 1) some ≡ take (i + 1) others
same-data-more some others i d so_far within inside same e =
    let one = get_or some i d in
    let other = get_or others i d in
    let all = all_four so_far (is_data_char one) (is_data_char other)
    (nat_eq (byte_of_char one) (byte_of_char other)) e in
    take_more_same some others i d within inside (same all.0)
    (data-by-its-byte one all.1
    ∙ ap (λ byte. Data byte) (eqb-true (byte_of_char one) (byte_of_char other) all.3)
    ∙ sym (data-by-its-byte other all.2))

-- a part more is the same
pub same-part-more : (run chars : List Char) (i j : ℕ) → i ≤ j
    → take i run ≡ take i chars → slice_range run i j ≡ slice_range chars i j
    → take j run ≡ take j chars
same-part-more run chars i j order front part =
    let whole : i + (j - i) ≡ j = omega arith in
    ap (λ n. take n run) (sym whole) ∙ take-add i (j - i) run
    ∙ ap (λ l. l ++ take (j - i) (drop i run)) front
    ∙ ap (λ l. take i chars ++ l) part
    ∙ sym (take-add i (j - i) chars) ∙ ap (λ n. take n chars) whole
