-- Words of so many hexadecimal digits.
use Rattle.std.proofs.Common.{◌≡◌, ◌≢◌, ℕ, ◌+◌, ◌*◌, ◌/◌, ◌%◌, ◌<◌, ◌≤◌, ◌^◌, zero, suc, List, [], ◌∷◌, ◌++◌, length, length-append, get_or, take, refl, sym, ap, ap₂, ◌∙◌, add-one, arith, inl, inr}
use Rattle.std.proofs.lemmas.List.{take_more, get_or_append_left}
use Rattle.std.proofs.lemmas.Bool.{cases_lt}
use Rattle.std.proofs.Math.Seq.{get_or-append_seam}
use Rattle.std.proofs.Math.Nat.{pow-suc, pow-le-pow_right}
use Rattle.rio_chars.specs.HexText.{hex_digit}
use Rattle.fabric_script.specs.Texts.{digits_text}
use Rattle.rio_chars.proofs.HexLaws.{hex_digit-injective}

pub length-digits_text : (count n : ℕ) → length (digits_text count n) ≡ count
length-digits_text zero n = refl
length-digits_text (suc count) n =
    let front = length-digits_text count (n / 16)
    in
    simp length-append (omega arith)

pub no_digits-count : (word : List ℕ) (count : ℕ) → length word ≢ count → (n : ℕ) → n < 16 ^ count
    → word ≢ digits_text count n
no_digits-count word count other n below e = other (ap length e ∙ length-digits_text count n)

-- one digit more
digits_text-push : (count value digit : ℕ) → digit < 16
    → digits_text (suc count) (16 * value + digit) ≡ digits_text count value ++ hex_digit digit ∷ []
digits_text-push count value digit below =
    let high : (16 * value + digit) / 16 ≡ value = omega arith in
    let low : (16 * value + digit) % 16 ≡ digit = omega arith in
    rw (high, low)

pub digits-turn : (word : List ℕ) (i value digit : ℕ) → i < length word → take i word
    ≡ digits_text i value → digit < 16 → get_or word i 0 ≡ hex_digit digit → take (i + 1) word
    ≡ digits_text (i + 1) (16 * value + digit)
digits-turn word i value digit within so_far below here =
    take_more word i 0 within ∙ ap (λ l. l ++ get_or word i 0 ∷ []) so_far
    ∙ ap (λ c. digits_text i value ++ c ∷ []) here
    ∙ sym (rw add-one (digits_text-push i value digit below))

pub below-turn : (i value digit : ℕ) → value < 16 ^ i → digit < 16 → 16 * value + digit
    < 16 ^ (i + 1)
below-turn i value digit below small =
    let e : 16 ^ (i + 1) ≡ 16 ^ i * 16 = rw add-one (pow-suc 16 i)
    in
    omega arith

-- each place has a digit
digit_at : (count n i : ℕ) → i < count → (digit : ℕ) × (digit < 16)
    × (get_or (digits_text count n) i 0 ≡ hex_digit digit)
digit_at zero n i within = absurd (omega arith)
digit_at (suc count) n i within = elim (cases_lt i count) [
  | inl before ↦
      let found = digit_at count (n / 16) i before in
      let front : i < length (digits_text count (n / 16)) =
      omega (arith, length-digits_text count (n / 16)) in (
        found.0,
        found.1,
        get_or_append_left (digits_text count (n / 16)) (hex_digit (n % 16) ∷ []) 0
            i front ∙ found.2,
      )
  | inr last ↦
      let at : i ≡ length (digits_text count (n / 16)) =
      omega (arith, length-digits_text count (n / 16)) in (
        n % 16,
        omega arith,
        ap (λ k. get_or (digits_text count (n / 16) ++ hex_digit (n % 16) ∷ []) k 0) at
            ∙ get_or-append_seam (digits_text count (n / 16)) (hex_digit (n % 16)) [] 0,
      )
]

pub no_digits-stop : (word : List ℕ) (count i : ℕ) → i < count
    → ((digit : ℕ) → digit < 16 → get_or word i 0 ≢ hex_digit digit) → (n : ℕ) → n < 16 ^ count
    → word ≢ digits_text count n
no_digits-stop word count i within none n below e =
    let found = digit_at count n i within in
    none found.0 found.1 (ap (λ w. get_or w i 0) e ∙ found.2)

append_one-injective : (a b : List ℕ) (x y : ℕ) → a ++ x ∷ [] ≡ b ++ y ∷ [] → (a ≡ b) × (x ≡ y)
append_one-injective [] [] x y e = (refl, cc)
append_one-injective [] (d ∷ b) x y e =
    absurd (omega (arith, ap length e, length-append b (y ∷ [])))
append_one-injective (c ∷ a) [] x y e =
    absurd (omega (arith, ap length e, length-append a (x ∷ [])))
append_one-injective (c ∷ a) (d ∷ b) x y e =
    let rest = append_one-injective a b x y cc in
    let first : c ≡ d = cc in
    (ap₂ ◌∷◌ first rest.0, rest.1)

-- digits spell one number
pub digits_text-injective : (count m n : ℕ) → m < 16 ^ count → n < 16 ^ count → digits_text count m
    ≡ digits_text count n → m ≡ n
digits_text-injective zero m n below_m below_n e = omega arith
digits_text-injective (suc count) m n below_m below_n e =
    let p : 16 ^ suc count ≡ 16 ^ count * 16 = pow-suc 16 count in
    let same = append_one-injective (digits_text count (m / 16)) (digits_text count (n / 16))
    (hex_digit (m % 16)) (hex_digit (n % 16)) e in
    let high = digits_text-injective count (m / 16) (n / 16) (omega arith) (omega arith) same.0 in
    let low = hex_digit-injective (m % 16) (n % 16) same.1 in
    omega arith

pub digits-fit : (i value digit : ℕ) → i < 8 → value < 16 ^ i → digit < 16 → 16 * value + digit
    < 2 ^ 32
digits-fit i value digit few below small =
    let more = below-turn i value digit below small in
    let most : 16 ^ (i + 1) ≤ 16 ^ 8 = pow-le-pow_right {n = 16} (omega arith) {i = i + 1} {j = 8}
    (omega arith) in
    omega arith
