-- The first of several that has an answer.
use Rattle.std.proofs.Common.{◌≡◌, true, false, is_some, IsSome, ℕ, zero, suc, ◌+◌, ◌<◌, Option, Some, None, refl, ap, sym, ◌∙◌, ◌⊎◌, inl, inr, arith}
use Rattle.std.specs.Option.{option_or}
use Rattle.std.proofs.lemmas.Bool.{cases_eq}
use Rattle.switch_core.specs.Order.{least_first, greatest_first}

either_some : {A : Type 0} (o p : Option A) (x : A) → option_or o p ≡ Some x → (o ≡ Some x)
    ⊎ (p ≡ Some x)
either_some None p x is = inr is
either_some (Some y) p x is = inl is

module _ {A : Type 0} (answer : ℕ → Option A) where
  -- a number that has no answer is passed
  pub least_first-passed : (n m : ℕ) → m ≡ n + 1 → least_first answer n ≡ None → answer n ≡ None
      → least_first answer m ≡ None
  unfolding least_first
  least_first-passed n m e before here =
      let next : m ≡ suc n = omega arith in ap (least_first answer) next ∙ after
    where
      after : least_first answer (suc n) ≡ None
      after = rw before here

  pub least_first-none : least_first answer 0 ≡ None
  unfolding least_first
  least_first-none = refl

  -- the first number that has an answer gives it, whatever comes behind it
  pub least_first-found : (n m : ℕ) (x : A) → m < n → least_first answer m ≡ None → answer m
      ≡ Some x → least_first answer n ≡ Some x
  unfolding least_first
  least_first-found zero m x below before here = absurd (omega arith)
  least_first-found (suc n) m x below before here =
      elim (cases_eq m n) [
        | inl last ↦
            (let same : least_first answer n ≡ None = ap (least_first answer) (sym last) ∙ before in
            let is : answer n ≡ Some x = ap answer (sym last) ∙ here in
            rw (same, is) refl)
        | inr other ↦
            (let found = least_first-found n m x (omega arith) before here in
            rw found refl)
      ]

  -- from above
  pub greatest_first-found : (n m : ℕ) (x : A) → m ≡ n + 1 → answer n ≡ Some x
      → greatest_first answer m ≡ Some x
  unfolding greatest_first
  greatest_first-found n m x e here =
      let next : m ≡ suc n = omega arith
      in
      ap (greatest_first answer) next ∙ after
    where
      after : greatest_first answer (suc n) ≡ Some x
      after = rw here refl

  pub greatest_first-passed : (n m : ℕ) → m ≡ n + 1 → answer n ≡ None → greatest_first answer m
      ≡ greatest_first answer n
  unfolding greatest_first
  greatest_first-passed n m e here =
      let next : m ≡ suc n = omega arith
      in
      ap (greatest_first answer) next ∙ after
    where
      after : greatest_first answer (suc n) ≡ greatest_first answer n
      after = rw here refl

  pub greatest_first-none : (n : ℕ) → n ≡ 0 → greatest_first answer n ≡ None
  unfolding greatest_first
  greatest_first-none n e = ap (greatest_first answer) e

  -- the answer of the first number that has one
  pub least_first-at : (n m : ℕ) → m < n → least_first answer m ≡ None → is_some (answer m) ≡ true
      → least_first answer n ≡ answer m
  least_first-at n m below before some = by_answer (answer m) refl some
    where
      by_answer : (o : Option A) → answer m ≡ o → is_some o ≡ true → least_first answer n ≡ answer m
      by_answer None e h = cc
      by_answer (Some x) e h = least_first-found n m x below before e ∙ sym e

  pub least_first-over : (n m : ℕ) → m ≡ n + 1 → least_first answer n ≡ None → is_some (answer n)
      ≡ false → least_first answer m ≡ None
  least_first-over n m next before none = by_answer (answer n) refl none
    where
      by_answer : (o : Option A) → answer n ≡ o → is_some o ≡ false → least_first answer m ≡ None
      by_answer None e h = least_first-passed n m next before e
      by_answer (Some x) e h = cc

  pub greatest_first-at : (n m : ℕ) (o : Option A) → m ≡ n + 1 → answer n ≡ o → IsSome o
      → greatest_first answer m ≡ o
  greatest_first-at n m None next e h = cc
  greatest_first-at n m (Some x) next e h = greatest_first-found n m x next e

  pub greatest_first-some : (n m : ℕ) → m ≡ n + 1 → is_some (answer n) ≡ true
      → greatest_first answer m ≡ answer n
  greatest_first-some n m next some = by_answer (answer n) refl some
    where
      by_answer : (o : Option A) → answer n ≡ o → is_some o ≡ true → greatest_first answer m
          ≡ answer n
      by_answer None e h = cc
      by_answer (Some x) e h = greatest_first-found n m x next e ∙ sym e

  pub greatest_first-over : (n m : ℕ) → m ≡ n + 1 → is_some (answer n) ≡ false
      → greatest_first answer m ≡ greatest_first answer n
  greatest_first-over n m next none = by_answer (answer n) refl none
    where
      by_answer : (o : Option A) → answer n ≡ o → is_some o ≡ false → greatest_first answer m
          ≡ greatest_first answer n
      by_answer None e h = greatest_first-passed n m next e
      by_answer (Some x) e h = cc

  -- an answer that is found is that of a number below the bound
  pub least_first-is : (n : ℕ) (x : A) → least_first answer n ≡ Some x → (m : ℕ) × (m < n)
      × (answer m ≡ Some x)
  unfolding least_first
  least_first-is zero x is = absurd cc
  least_first-is (suc n) x is = by_last (either_some (least_first answer n) (answer n) x is)
      (λ before. least_first-is n x before)
    where
      by_last : (least_first answer n ≡ Some x) ⊎ (answer n ≡ Some x)
          → (least_first answer n ≡ Some x → (m : ℕ) × (m < n) × (answer m ≡ Some x)) → (m : ℕ)
          × (m < suc n) × (answer m ≡ Some x)
      by_last (inl before) found = let m = found before in (m.0, omega (arith, m.1), m.2)
      by_last (inr here) found = (n, omega arith, here)

  pub greatest_first-is : (n : ℕ) (x : A) → greatest_first answer n ≡ Some x → (m : ℕ) × (m < n)
      × (answer m ≡ Some x)
  unfolding greatest_first
  greatest_first-is zero x is = absurd cc
  greatest_first-is (suc n) x is = by_last (either_some (answer n) (greatest_first answer n) x is)
      (λ below. greatest_first-is n x below)
    where
      by_last : (answer n ≡ Some x) ⊎ (greatest_first answer n ≡ Some x)
          → (greatest_first answer n ≡ Some x → (m : ℕ) × (m < n) × (answer m ≡ Some x)) → (m : ℕ)
          × (m < suc n) × (answer m ≡ Some x)
      by_last (inl here) found = (n, omega arith, here)
      by_last (inr below) found = let m = found below in (m.0, omega (arith, m.1), m.2)
