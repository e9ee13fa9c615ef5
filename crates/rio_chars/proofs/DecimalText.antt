-- The digits of a number, from the last to the first.
use Rattle.std.proofs.Common.{◌≡◌, ◌<◌, ◌≤◌, ◌+◌, ◌-◌, ◌*◌, ◌/◌, ◌%◌, ◌^◌, ℕ, zero, suc, List, [], ◌∷◌, ◌++◌, length, drop, set, sym, ap, ◌∙◌, arith, subst, append_assoc}
use Rattle.std.specs.Fmt.{decimal}
use Rattle.std.proofs.Math.Nat.{pow-suc}
use Rattle.std.proofs.lemmas.List.{drop-set, drop_all}
use Rattle.std.proofs.lemmas.Fmt.{decimal_step, decimal_digit}

-- the digits from `at` on are the number's last ones, and `rest` has those before them
pub record DigitsFrom (number rest at : ℕ) (digits : List ℕ) : Type 0 where
  pub some : 0 < rest → decimal number ≡ decimal rest ++ drop at digits
  pub none : rest ≡ 0 → decimal number ≡ drop at digits

pub DigitsFrom-begin : (number : ℕ) (digits : List ℕ) → number < 2 ^ 64 → 9 < length digits
    → length digits ≡ 10
    → DigitsFrom number (number / 10) 9 (set digits 9 (48 + number % 10))
DigitsFrom-begin number digits fits room ten =
    let last =
    drop-set digits 9 (48 + number % 10) room
    ∙ ap (λ l. (48 + number % 10) ∷ l) (drop_all 10 digits (omega arith)) in
    record {
      some =
          λ more. decimal_step number (omega arith) fits
          ∙ ap (λ l. decimal (number / 10) ++ l) (sym last);
      none =
          λ zero_left. decimal_digit number (omega arith)
          ∙ ap (λ n. (48 + n) ∷ []) (omega arith)
          ∙ sym last;
    }

pub DigitsFrom-step : (number rest at : ℕ) (digits : List ℕ) → 0 < rest → rest < 2 ^ 64 → 0 < at
    → at ≤ length digits → DigitsFrom number rest at digits
    → DigitsFrom number (rest / 10) (at - 1) (set digits (at - 1) (48 + rest % 10))
DigitsFrom-step number rest at digits more fits room within old =
    let below : at - 1 < length digits = omega arith in
    let here : at - 1 + 1 ≡ at = omega arith in
    let front =
    drop-set digits (at - 1) (48 + rest % 10) below
    ∙ ap (λ n. (48 + rest % 10) ∷ drop n digits) here in
    record {
      some =
          λ left. old.some more
          ∙ ap (λ l. l ++ drop at digits) (decimal_step rest (omega arith) fits)
          ∙ append_assoc (decimal (rest / 10)) ((48 + rest % 10) ∷ []) (drop at digits)
          ∙ ap (λ l. decimal (rest / 10) ++ l) (sym front);
      none =
          λ zero_left. old.some more
          ∙ ap (λ l. l ++ drop at digits)
          (decimal_digit rest (omega arith) ∙ ap (λ n. (48 + n) ∷ []) (omega arith))
          ∙ sym front;
    }

-- a number below a power of ten has a digit fewer when its last is taken away
pub power_step : (rest at : ℕ) → 0 < rest → rest < 10 ^ at → (0 < at) × (rest / 10 < 10 ^ (at - 1))
power_step rest zero more below = absurd (omega arith)
power_step rest (suc k) more below =
    let e : 10 ^ suc k ≡ 10 ^ k * 10 = pow-suc 10 k in
    let f : suc k - 1 ≡ k = omega arith in
    let g : rest / 10 < 10 ^ k = omega arith in
    (omega arith, subst (λ n. rest / 10 < 10 ^ n) (sym f) g)
