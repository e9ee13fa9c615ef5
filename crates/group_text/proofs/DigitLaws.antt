-- Binary digits, read and written.
use Rattle.std.proofs.Common.{◌≡◌, ◌≢◌, ℕ, zero, suc, ◌+◌, ◌*◌, ◌/◌, ◌%◌, ◌^◌, ◌<◌, ◌≤◌, ◌⊎◌, ◌-◌, List, [], ◌∷◌, ◌++◌, length, get_or, take, drop, refl, sym, ap, ◌∙◌, subst, inl, inr, arith, lit<, append_assoc, length-append}
use Rattle.std.proofs.Math.Nat.{pow-succ'}
use Rattle.group_text.specs.GroupTexts.{binary_digits, group_text_of}
use Rattle.group_text.proofs.ListLaws.{front_of}

-- one digit more
pub one_more : (width number bit : ℕ) → bit < 2
    → binary_digits (suc width) (2 * number + bit) ≡ binary_digits width number ++ (48 + bit) ∷ []
one_more width number bit low =
    let half : (2 * number + bit) / 2 ≡ number = omega arith in
    let last : (2 * number + bit) % 2 ≡ bit = omega arith in
    ap (λ (n : ℕ). binary_digits width n ++ (48 + (2 * number + bit) % 2) ∷ []) half
    ∙ ap (λ (b : ℕ). binary_digits width number ++ (48 + b) ∷ []) last

pub length-digits : (width number : ℕ) → length (binary_digits width number) ≡ width
length-digits zero number = refl
length-digits (suc width) number =
    let shorter = length-digits width (number / 2) in
    let longer = length-append (binary_digits width (number / 2)) ((48 + number % 2) ∷ []) in
    omega (arith, shorter, longer)

-- each is a digit
abbrev pub AreBinary : List ℕ → Type 0
AreBinary [] = Unit {0}
AreBinary (byte ∷ bytes) = ((byte ≡ 48) ⊎ (byte ≡ 49)) × AreBinary bytes

binary_append : (xs ys : List ℕ) → AreBinary xs → AreBinary ys → AreBinary (xs ++ ys)
binary_append [] ys h k = k
binary_append (x ∷ xs) ys h k = (h.0, binary_append xs ys h.1 k)

binary_rest : (xs ys : List ℕ) → AreBinary (xs ++ ys) → AreBinary ys
binary_rest [] ys h = h
binary_rest (x ∷ xs) ys h = binary_rest xs ys h.1

one_of_two : (n : ℕ) → (48 + n % 2 ≡ 48) ⊎ (48 + n % 2 ≡ 49)
one_of_two n = by_rest (n % 2) (omega arith)
  where
    by_rest : (r : ℕ) → r < 2 → (48 + r ≡ 48) ⊎ (48 + r ≡ 49)
    by_rest zero h = inl refl
    by_rest (suc zero) h = inr refl
    by_rest (suc (suc r)) h = absurd (omega arith)

pub digits_binary : (width number : ℕ) → AreBinary (binary_digits width number)
digits_binary zero number = tt
digits_binary (suc width) number =
    binary_append (binary_digits width (number / 2)) _ (digits_binary width (number / 2))
    (one_of_two number, tt)

-- a byte that is no digit stands in no text
pub no_text : (width number : ℕ) (byte : ℕ) (rest word : List ℕ)
    → binary_digits width number ++ byte ∷ rest ≡ word → byte ≢ 48 → byte ≢ 49
    → (group : ℕ) → word ≢ group_text_of group
no_text width number byte rest word is zero_not one_not group e =
    let all : AreBinary (binary_digits width number ++ byte ∷ rest) =
    subst AreBinary (sym (is ∙ e)) (digits_binary 10 group) in
    elim (binary_rest (binary_digits width number) (byte ∷ rest) all).0 [
      | inl e0 ↦ zero_not e0
      | inr e1 ↦ one_not e1
    ]

-- the number of digits that were read is below 10, and so the number is below 512
pub few_digits : (width number : ℕ) → width < 10 → number < 2 ^ width → number < 512
few_digits zero n h k = omega arith
few_digits (suc zero) n h k = omega arith
few_digits (suc (suc zero)) n h k = omega arith
few_digits (suc (suc (suc zero))) n h k = omega arith
few_digits (suc (suc (suc (suc zero)))) n h k = omega arith
few_digits (suc (suc (suc (suc (suc zero))))) n h k = omega arith
few_digits (suc (suc (suc (suc (suc (suc zero)))))) n h k = omega arith
few_digits (suc (suc (suc (suc (suc (suc (suc zero))))))) n h k = omega arith
few_digits (suc (suc (suc (suc (suc (suc (suc (suc zero)))))))) n h k = omega arith
few_digits (suc (suc (suc (suc (suc (suc (suc (suc (suc zero))))))))) n h k = omega arith
few_digits (suc (suc (suc (suc (suc (suc (suc (suc (suc (suc width)))))))))) n h k =
    absurd (omega arith)

-- What was read of a word: so many digits of this number, and what is left.
pub record DigitsRead (word left : List ℕ) (number : ℕ) : Type 0 where
  pub width : ℕ
  pub within : width + length left ≡ 10
  pub low : number < 2 ^ width
  pub is : binary_digits width number ++ left ≡ word

pub read_none : (word : List ℕ) → length word ≡ 10 → DigitsRead word word 0
read_none word h = record { width = 0; within = omega (arith, h); low = lit< tt; is = refl }

-- one digit more was read
pub more_read : (word left : List ℕ) (number bit d : ℕ) → DigitsRead word left number
    → 1 ≤ length left → bit < 2 → get_or left 0 d ≡ 48 + bit
    → DigitsRead word (take (length left - 1) (drop 1 left)) (2 * number + bit)
more_read word left number bit d h some low is =
    let rest : List ℕ = take (length left - 1) (drop 1 left) in
    let front : left ≡ (48 + bit) ∷ rest =
    front_of left d some ∙ ap (λ (b : ℕ). b ∷ rest) is in
    let longer : length left ≡ suc (length rest) = ap length front in
    let power : 2 ^ suc h.width ≡ 2 * 2 ^ h.width = pow-succ' 2 h.width in
    let small : number < 2 ^ h.width = h.low in
    let within : h.width + length left ≡ 10 = h.within in
    record {
      width = suc h.width;
      within = omega (arith, longer, within);
      low = omega (arith, power, small, low);
      is =
          ap (λ (ds : List ℕ). ds ++ rest) (one_more h.width number bit low)
          ∙ append_assoc (binary_digits h.width number) ((48 + bit) ∷ []) rest
          ∙ ap (λ (ds : List ℕ). binary_digits h.width number ++ ds) (sym front)
          ∙ h.is;
    }

-- what was read is below 512 as long as a digit is left
pub fits_more : (word left : List ℕ) (number : ℕ) → DigitsRead word left number
    → 1 ≤ length left → number < 512
fits_more word left number h some =
    let within : h.width + length left ≡ 10 = h.within in
    few_digits h.width number (omega (arith, within, some)) h.low

pub none_read : (word left : List ℕ) (number d : ℕ) → DigitsRead word left number
    → 1 ≤ length left → get_or left 0 d ≢ 48 → get_or left 0 d ≢ 49
    → (group : ℕ) → word ≢ group_text_of group
none_read word left number d h some zero_not one_not =
    let rest : List ℕ = take (length left - 1) (drop 1 left) in
    no_text h.width number (get_or left 0 d) rest word
    (ap (λ (ds : List ℕ). binary_digits h.width number ++ ds) (sym (front_of left d some)) ∙ h.is)
    zero_not one_not
