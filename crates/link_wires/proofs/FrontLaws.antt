-- A front of characters that stand in two parts.
use Rattle.std.proofs.Common.{◌≡◌, ℕ, zero, suc, ◌-◌, ◌++◌, min, List, [], ◌∷◌, length, take, refl, ap, ◌∙◌, arith}
use Rattle.rio_chars.specs.declared.chars.Char.{Char}

pub front_is : (first second : List Char) (n m : ℕ) → m ≡ min (length first) n
    → take m first ++ take (n - m) second ≡ take n (first ++ second)
front_is [] second n m is =
    let none : m ≡ 0 = omega arith in
    let all : n - 0 ≡ n = omega arith in
    ap (λ k. take k [] ++ take (n - k) second) none ∙ ap (λ k. take k second) all
front_is (x ∷ first) second zero m is =
    let none : m ≡ 0 = omega arith in
    ap (λ k. take k (x ∷ first) ++ take (0 - k) second) none
front_is (x ∷ first) second (suc n) m is =
    let more : m ≡ suc (min (length first) n) = omega arith in
    let left : suc n - suc (min (length first) n) ≡ n - min (length first) n = omega arith in
    ap (λ k. take k (x ∷ first) ++ take (suc n - k) second) more
    ∙ ap (λ k. x ∷ (take (min (length first) n) first ++ take k second)) left
    ∙ ap (λ (l : List Char). x ∷ l) (front_is first second n (min (length first) n) refl)
