-- What a call does, by what the handle has.
use Rattle.std.proofs.Common.{◌≡◌, ℕ, List, [], ◌∷◌, length, refl, sym, subst, arith}
use Rattle.library_calls.specs.declared.status.CallStatus.{CallStatus}
use Rattle.library_calls.specs.declared.status.CallStatus.TheVariants.{Done, Closed}
use Rattle.library_calls.specs.Statuses.{call_number}
use Rattle.kigvarp_c.specs.Calls.{Calls, OpensBy, ClosesBy}

module _ {X : Type 0} where
  -- a closed handle
  pub calls_closed : (Untouched : Type 0) (Does : X → CallStatus → X → Type 0) (old after : List X)
      (number : ℕ) → old ≡ [] → number ≡ call_number Closed → after ≡ [] → Untouched
      → Calls Untouched Does old number after
  calls_closed Untouched Does old after number none is closed same =
      subst (λ (xs : List X). Calls Untouched Does xs number after) (sym none) (is, closed, same)

  -- an open one
  pub calls_open : (Untouched : Type 0) (Does : X → CallStatus → X → Type 0)
      (old others after : List X) (was was_too now : X) (status : CallStatus) (number : ℕ)
      → old ≡ was ∷ others → was_too ≡ was → number ≡ call_number status → after ≡ now ∷ []
      → Does was_too status now → Calls Untouched Does old number after
  calls_open Untouched Does old others after was was_too now status number some same is opened does
      =
      subst (λ (xs : List X). Calls Untouched Does xs number after) (sym some)
      (status, now, is, opened, subst (λ (x : X). Does x status now) same does)

  pub opens_closed : (Opens : CallStatus → List X → Type 0) (old after : List X)
      (status : CallStatus) (number : ℕ) → old ≡ [] → number ≡ call_number status
      → Opens status after → OpensBy Opens old number after
  opens_closed Opens old after status number none is opens =
      subst (λ (xs : List X). OpensBy Opens xs number after) (sym none) (status, is, opens)

  pub closes_open : (old others after : List X) (was : X) (number : ℕ) → old ≡ was ∷ others
      → number ≡ call_number Done → after ≡ [] → ClosesBy old number after
  closes_open old others after was number some is closed =
      subst (λ (xs : List X). ClosesBy xs number after) (sym some) (is, closed)

  pub closes_closed : (old after : List X) (number : ℕ) → old ≡ []
      → number ≡ call_number Closed → after ≡ [] → ClosesBy old number after
  closes_closed old after number none is closed =
      subst (λ (xs : List X). ClosesBy xs number after) (sym none) (is, closed)

  pub no_items : (xs : List X) (count : ℕ) → length xs ≡ count → count ≡ 0 → xs ≡ []
  no_items [] count size none = refl
  no_items (x ∷ xs) count size none = absurd (omega (arith, size, none))
