-- Counts of faults over several calls.
use Rattle.std.proofs.Common.{◌≡◌, ◌≤◌, ◌⊎◌, ℕ, Bool, true, inl, inr, arith}
use Rattle.rio_chars.specs.Faults.{Rose, FailedBy}

-- a count that did not fall before the call
pub Rose-before : (a b c : ℕ) → a ≤ b → Rose b c → Rose a c
Rose-before a b c later (inl more) = inl (omega arith)
Rose-before a b c later (inr most) = inr most

-- a count that did not fall after the call
pub Rose-after : (a b c : ℕ) → Rose a b → b ≤ c → Rose a c
Rose-after a b c (inl more) later = inl (omega arith)
Rose-after a b c (inr most) later = inr (omega arith)

pub FailedBy-trans : (f : Bool) (a : ℕ) (g : Bool) (b : ℕ) (h : Bool) (c : ℕ) → FailedBy f a g b
    → FailedBy g b h c → a ≤ b → b ≤ c → FailedBy f a h c
FailedBy-trans f a g b h c first second le le2 is =
    elim (second is) as (λ _. (f ≡ true) ⊎ Rose a c) [
      | inl failed ↦ elim (first failed) as (λ _. (f ≡ true) ⊎ Rose a c)
          [ inl early ↦ inl early | inr rose ↦ inr (Rose-after a b c rose le2) ]
      | inr rose ↦ inr (Rose-before a b c le rose)
    ]
