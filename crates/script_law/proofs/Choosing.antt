-- One answer or the other: two texts, the first number below a bound.
use Rattle.std.proofs.Common.{◌≡◌, ◌≢◌, ℕ, zero, suc, ◌<◌, ◌≤◌, Bool, true, false, List, refl, subst, ◌⊎◌, inl, inr, arith}
use Rattle.std.specs.Bool.{Decides}
use Rattle.std.specs.Str.{bytes_eq}
use Rattle.std.proofs.lemmas.Bool.{cases_lt, cases_Bool}
use Rattle.std.proofs.lemmas.Bool.Decides.{not_from_Decides}
use Rattle.std.proofs.lemmas.Slice.Eq.{bytes_eq-Decides}

-- it holds, or it does not
abbrev pub Decided : Type 0 → Type 0
Decided A = A ⊎ (A → ⊥)

pub both_or_not : {A B : Type 0} → Decided A → Decided B → Decided (A × B)
both_or_not (inl a) (inl b) = inl (a, b)
both_or_not (inl a) (inr other) = inr (λ both. other both.1)
both_or_not (inr other) b = inr (λ both. other both.0)

pub same_or_not : (xs ys : List ℕ) → Decided (xs ≡ ys)
same_or_not xs ys = by_test (bytes_eq xs ys) (bytes_eq-Decides xs ys)
  where
    by_test : (b : Bool) → Decides b (xs ≡ ys) → Decided (xs ≡ ys)
    by_test true tells = inl (tells.0 refl)
    by_test false tells = inr (not_from_Decides false tells refl)

pub differ : (xs ys : List ℕ) → xs ≢ ys → bytes_eq xs ys ≡ false
differ xs ys other = elim (cases_Bool (bytes_eq xs ys)) [
  | inl same ↦ absurd (other ((bytes_eq-Decides xs ys).0 same))
  | inr differs ↦ differs
]

-- the first number for which it holds, below a bound
pub record First (P : ℕ → Type 0) (bound : ℕ) : Type 0 where
  pub n : ℕ
  pub below : n < bound
  pub is : P n
  pub least : (m : ℕ) → P m → n ≤ m

pub first_or_none : (P : ℕ → Type 0) → ((n : ℕ) → Decided (P n)) → (bound : ℕ)
    → First P bound ⊎ ((n : ℕ) → n < bound → P n → ⊥)
first_or_none P decide zero = inr (λ n below is. absurd (omega arith))
first_or_none P decide (suc bound) = elim (first_or_none P decide bound) [
  | inl found ↦ inl record {
    n = found.n;
    below = let below = found.below in omega arith;
    is = found.is;
    least = found.least;
  }
  | inr none ↦ elim (decide bound) [
    | inl here ↦ inl record {
      n = bound;
      below = omega arith;
      is = here;
      least = λ m is. not_before m none is (cases_lt m bound);
    }
    | inr other ↦ inr (λ n below is. not_here n below none other is (cases_lt n bound))
  ]
]
  where
    not_before : (m : ℕ) → ((n : ℕ) → n < bound → P n → ⊥) → P m
        → (m < bound) ⊎ (bound ≤ m) → bound ≤ m
    not_before m none is (inl before) = absurd (none m before is)
    not_before m none is (inr behind) = behind

    not_here : (n : ℕ) → n < suc bound → ((n : ℕ) → n < bound → P n → ⊥) → (P bound → ⊥) → P n
        → (n < bound) ⊎ (bound ≤ n) → ⊥
    not_here n below none other is (inl before) = none n before is
    not_here n below none other is (inr behind) =
        let last : n ≡ bound = omega arith in
        other (subst P last is)
