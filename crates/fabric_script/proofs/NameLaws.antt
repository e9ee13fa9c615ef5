-- What a name is made of.
use Rattle.std.proofs.Common.{◌≡◌, ℕ, ◌-◌, ◌<◌, ◌≤◌, Bool, true, false, ◌&&◌, nat_le, List, [], ◌∷◌, length, get_or, take, drop, refl, ◌∙◌, arith, suc}
use Rattle.std.proofs.lemmas.Bool.Decides.{nat_tests}
use Rattle.std.proofs.lemmas.Grind.{common_steps}
use Rattle.fabric_script.specs.Names.{is_name, is_letter, are_letters_or_digits}

pub is_name-parts : (word : List ℕ) → 1 ≤ length word → is_name word
    ≡ is_letter (get_or word 0 0) &&
    (nat_le (length word - 1) 7 && are_letters_or_digits (take (length word - 1) (drop 1 word)))
is_name-parts [] some = absurd (omega arith)
is_name-parts (c ∷ word) some =
    let count : length (c ∷ word) - 1 ≡ length word = grind (arith, common_steps) in
    let all : take (length word) word ≡ word = grind (arith, common_steps) in
    rw (count, all)

pub length-name : (word : List ℕ) → is_name word ≡ true → length word ≤ 8
length-name [] name = omega arith
length-name (c ∷ word) name = short (is_letter c) (length word) (are_letters_or_digits word) name
  where
    short : (a : Bool) (n : ℕ) (b : Bool) → a && (nat_le n 7 && b) ≡ true → suc n ≤ 8
    short true n b e = grind (arith, nat_tests)
    short false n b e = cc

pub is_name-long : (word : List ℕ) → 1 ≤ length word → 7 < length word - 1 → is_name word ≡ false
is_name-long [] some long = absurd (omega arith)
is_name-long (c ∷ word) some long =
    by_letter (is_letter c) (length word) (are_letters_or_digits word) (omega arith)
  where
    by_letter : (a : Bool) (n : ℕ) (b : Bool) → 7 < n → a && (nat_le n 7 && b) ≡ false
    by_letter true n b e = grind (arith, nat_tests)
    by_letter false n b e = refl

pub is_name-rest : (word : List ℕ) → 1 ≤ length word → is_letter (get_or word 0 0) ≡ true
    → length word - 1 ≤ 7 → is_name word
    ≡ are_letters_or_digits (take (length word - 1) (drop 1 word))
is_name-rest word some letter short =
    let fits : nat_le (length word - 1) 7 ≡ true = grind (arith, nat_tests) in
    is_name-parts word some ∙ rw (letter, fits)
