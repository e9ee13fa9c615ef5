-- Numbers read from the left.
use Rattle.std.proofs.Common.{◌≡◌, ◌≢◌, ℕ, ◌+◌, ◌*◌, ◌-◌, ◌<◌, ◌≤◌, ◌^◌, true, false, List, [], ◌∷◌, length, get_or, drop, sym, ap, ◌∙◌, rules, arith, drop-cons, add-one}
use Rattle.std.specs.Fmt.{decimal}
use Rattle.std.specs.Str.{all_ascii_digits}
use Rattle.std.specs.Char.{is_ascii_digit}
use Rattle.std.proofs.lemmas.Str.Parse.{IsNumeralModel, numerals_by_fold}
use Rattle.std.proofs.lemmas.Fmt.{digits_decimal, digits_value-decimal, decimal-digits_value, length-decimal-le, first_decimal, decimal_nonempty, decimal_digit}

-- the value of digits behind a value
abbrev pub read_on : ℕ → List ℕ → ℕ
read_on n [] = n
read_on n (c ∷ cs) = read_on (10 * n + (c - 48)) cs

own : IsNumeralModel (λ ds. all_ascii_digits ds ≡ true) (read_on 0)
own = numerals_by_fold _ (search rules) read_on (search rules)

pub decimal_has_digits : (n : ℕ) → n < 2 ^ 32 → all_ascii_digits (decimal n) ≡ true
decimal_has_digits n below = digits_decimal own n (omega arith)

pub value_of_decimal : (n : ℕ) → n < 2 ^ 32 → read_on 0 (decimal n) ≡ n
value_of_decimal n below = digits_value-decimal own n (omega arith)

-- a number's text is not empty, has a 0 in front only if it is 0, and at most ten digits
pub no_decimal-empty : (word : List ℕ) → length word ≡ 0 → (n : ℕ) → n < 2 ^ 32 → word ≢ decimal n
no_decimal-empty word none n below e =
    let some = decimal_nonempty n (omega arith)
    in
    omega (arith, ap length e, some)

pub no_decimal-zero : (word : List ℕ) → get_or word 0 0 ≡ 48 → length word ≢ 1 → (n : ℕ) → n
    < 2 ^ 32 → word ≢ decimal n
no_decimal-zero word zero more zero' below e =
    more (ap length (e ∙ decimal_digit zero' (omega (arith, positive))))
  where
    positive : 0 < zero' → ⊥
    positive h =
        let first = first_decimal zero' h (omega arith)
        in
        omega (arith, zero, ap (λ w. get_or w 0 0) e, first)

pub no_decimal-long : (word : List ℕ) → 10 < length word → (n : ℕ) → n < 2 ^ 32 → word ≢ decimal n
no_decimal-long word long n below e =
    let short = length-decimal-le 10 n (omega arith) (omega arith) (omega arith)
    in
    omega (arith, ap length e, short)

pub decimal_zero : (word : List ℕ) → get_or word 0 0 ≡ 48 → length word ≡ 1 → word ≡ decimal 0
decimal_zero [] first one = absurd (omega arith)
decimal_zero (c ∷ []) first one =
    let digit = decimal_digit 0 (omega arith) in
    let e : c ≡ 48 + 0 = omega (arith, first) in
    cc
decimal_zero (c ∷ d ∷ word) first one = absurd (omega arith)

-- one digit more was read
pub read_on-turn : (word : List ℕ) (i value : ℕ) → i < length word → read_on value (drop i word)
    ≡ read_on (10 * value + (get_or word i 0 - 48)) (drop (i + 1) word)
read_on-turn word i value within = rw add-one (ap (read_on value) (drop-cons word i 0 within))

pub all_digits-turn : (word : List ℕ) (i : ℕ) → i < length word → is_ascii_digit (get_or word i 0)
    ≡ true → all_ascii_digits (drop i word) ≡ all_ascii_digits (drop (i + 1) word)
all_digits-turn word i within digit =
    rw add-one (ap all_ascii_digits (drop-cons word i 0 within) ∙ rw digit)

pub all_digits-stop : (word : List ℕ) (i : ℕ) → i < length word → is_ascii_digit (get_or word i 0)
    ≡ false → all_ascii_digits (drop i word) ≡ false
all_digits-stop word i within other = ap all_ascii_digits (drop-cons word i 0 within) ∙ rw other

-- what is no word of digits spells no number, and digits spell their value
pub no_decimal-other : (word : List ℕ) → all_ascii_digits word ≡ false → (n : ℕ) → n < 2 ^ 32 → word
    ≢ decimal n
no_decimal-other word other n below e = let digits = decimal_has_digits n below in cc

pub no_decimal-large : (word : List ℕ) (value : ℕ) → read_on 0 word ≡ value → 2 ^ 32 ≤ value
    → (n : ℕ) → n < 2 ^ 32 → word ≢ decimal n
no_decimal-large word value is large n below e =
    let same = value_of_decimal n below
    in
    omega (arith, is, same, ap (read_on 0) e)

pub decimal_of_digits : (word : List ℕ) (value : ℕ) → 0 < length word → get_or word 0 0 ≢ 48
    → all_ascii_digits word ≡ true → read_on 0 word ≡ value → value < 2 ^ 64 → word ≡ decimal value
decimal_of_digits word value some first digits is below =
    sym (ap decimal (sym is) ∙ decimal-digits_value own word digits some
    (λ zero. absurd (first zero)) (omega (arith, is)))
