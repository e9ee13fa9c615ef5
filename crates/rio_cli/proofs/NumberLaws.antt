-- The digits of small numbers, and the last two of greater ones.
use Rattle.std.proofs.Common.{◌≡◌, ◌<◌, ◌≤◌, ◌+◌, ◌/◌, ◌%◌, ℕ, [], ◌∷◌, ◌++◌, sym, ap, ◌∙◌, ◌^◌, arith, append_assoc}
use Rattle.std.specs.Fmt.{decimal}
use Rattle.std.proofs.lemmas.Fmt.{decimal_step, decimal_digit}
use Rattle.host_enumerate.specs.MapTexts.{spaced}

pub two : (n : ℕ) → 10 ≤ n → n < 100 → decimal n ≡ (48 + n / 10) ∷ (48 + n % 10) ∷ []
two n many few =
    decimal_step n many (omega arith)
    ∙ ap (λ l. l ++ (48 + n % 10) ∷ []) (decimal_digit (n / 10) (omega arith))

pub three_digits : (n : ℕ) → 100 ≤ n → n < 256
    → (32 ∷ (48 + n / 100) ∷ (48 + n / 10 % 10) ∷ (48 + n % 10) ∷ []) ≡ spaced n
three_digits n many few =
    let same : n / 10 / 10 ≡ n / 100 = omega arith in
    let here : decimal n ≡ (48 + n / 10 / 10) ∷ (48 + n / 10 % 10) ∷ (48 + n % 10) ∷ [] =
    decimal_step n (omega arith) (omega arith)
    ∙ ap (λ l. l ++ (48 + n % 10) ∷ []) (two (n / 10) (omega arith) (omega arith)) in
    ap (λ k. 32 ∷ (48 + k) ∷ (48 + n / 10 % 10) ∷ (48 + n % 10) ∷ []) (sym same)
    ∙ sym (ap (λ l. 32 ∷ l) here)

-- the last two of three digits and more
pub hundreds : (n : ℕ) → 100 ≤ n → n < 2 ^ 32
    → decimal (n / 100) ++ (48 + n % 100 / 10) ∷ (48 + n % 100 % 10) ∷ [] ≡ decimal n
hundreds n many few =
    let up : n / 10 / 10 ≡ n / 100 = omega arith in
    let high : n % 100 / 10 ≡ n / 10 % 10 = omega arith in
    let low : n % 100 % 10 ≡ n % 10 = omega arith in
    sym (decimal_step n (omega arith) (omega arith)
    ∙ ap (λ l. l ++ (48 + n % 10) ∷ []) (decimal_step (n / 10) (omega arith) (omega arith))
    ∙ append_assoc (decimal (n / 10 / 10)) ((48 + n / 10 % 10) ∷ []) ((48 + n % 10) ∷ [])
    ∙ (λ i. decimal (up i) ++ (48 + sym high i) ∷ (48 + sym low i) ∷ []))

-- the last four of five digits and more
pub ten_thousands : (n : ℕ) → 10000 ≤ n → n < 2 ^ 32
    → decimal (n / 10000) ++ (48 + n % 10000 / 100 / 10) ∷ (48 + n % 10000 / 100 % 10)
    ∷ (48 + n % 10000 % 100 / 10) ∷ (48 + n % 10000 % 100 % 10) ∷ []
    ≡ decimal n
ten_thousands n many few =
    let up : n / 10000 ≡ n / 100 / 100 = omega arith in
    let high : n % 10000 / 100 ≡ n / 100 % 100 = omega arith in
    let low : n % 10000 % 100 ≡ n % 100 = omega arith in
    let last = (48 + n % 100 / 10) ∷ (48 + n % 100 % 10) ∷ [] in
    let middle = (48 + n / 100 % 100 / 10) ∷ (48 + n / 100 % 100 % 10) ∷ [] in
    (λ i. decimal (up i) ++ (48 + high i / 10) ∷ (48 + high i % 10) ∷ (48 + low i / 10)
    ∷ (48 + low i % 10) ∷ [])
    ∙ sym (append_assoc (decimal (n / 100 / 100)) middle last)
    ∙ ap (λ l. l ++ last) (hundreds (n / 100) (omega arith) (omega arith))
    ∙ hundreds n (omega arith) few
