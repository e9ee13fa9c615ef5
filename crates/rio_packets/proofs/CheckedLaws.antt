-- What a receiver's answer says of the bytes.
use Rattle.std.proofs.Common.{◌≡◌, ℕ, ◌<◌, ◌≤◌, ◌⊎◌, ◌↔◌, Option, Some, None, Result, Ok, Err, List, length, refl, sym, inl, inr, subst, arith, lt-ltb, le-ltb}
use Rattle.std.specs.Prelude.{IfOk, OnErr, IfErr}
use Rattle.std.proofs.lemmas.Bool.{cases_lt}
use Rattle.rio_packets.specs.declared.cause.Cause.{Cause}
use Rattle.rio_packets.specs.declared.cause.Cause.TheVariants.{BadPacket, General}
use Rattle.rio_packets.specs.Carries.{Carries, carried, found_or_bad, checked}
use Rattle.rio_packets.proofs.BuildingLaws.{checked-few, checked-in_range}
use Rattle.rio_packets.proofs.CarriesLaws.{carried-none, carried-out_of_range, Carries-from_carried}

-- the three answers, and when each comes
data Answers (bytes : List ℕ) : Result (ℕ × List ℕ) Cause → Type 0 where
  OutOfRange : (length bytes < 8) ⊎ (276 < length bytes) → Answers bytes (Err General)
  CarriesNone : 8 ≤ length bytes → length bytes ≤ 276 → carried bytes ≡ None
      → Answers bytes (Err BadPacket)
  Found : (found : ℕ × List ℕ) → 8 ≤ length bytes → length bytes ≤ 276 → carried bytes ≡ Some found
      → Answers bytes (Ok found)

pub checked-many : (bytes : List ℕ) → 276 < length bytes → checked bytes ≡ Err General
unfolding checked
checked-many bytes h = rw (le-ltb (length bytes) 8 (omega arith), lt-ltb 276 (length bytes) h) refl

by_carried : (bytes : List ℕ) (o : Option (ℕ × List ℕ)) → carried bytes ≡ o → 8 ≤ length bytes
    → length bytes ≤ 276 → Answers bytes (found_or_bad o)
by_carried bytes None is least most = CarriesNone least most is
by_carried bytes (Some found) is least most = Found found least most is

answers : (bytes : List ℕ) → Answers bytes (checked bytes)
answers bytes =
    elim (cases_lt (length bytes) 8) [
      | inl few ↦ subst (Answers bytes) (sym (checked-few bytes few)) (OutOfRange (inl few))
      | inr least ↦ elim (cases_lt 276 (length bytes)) [
        | inl many ↦ subst (Answers bytes) (sym (checked-many bytes many)) (OutOfRange (inr many))
        | inr most ↦ subst (Answers bytes) (sym (checked-in_range bytes least most))
            (by_carried bytes (carried bytes) refl least most)
      ]
    ]

by_ok : (bytes : List ℕ) {r : Result (ℕ × List ℕ) Cause} → Answers bytes r
    → IfOk r (λ found. Carries bytes found.0 found.1)
by_ok bytes (OutOfRange out) = tt
by_ok bytes (CarriesNone least most none) = tt
by_ok bytes (Found found least most is) = Carries-from_carried bytes found.0 found.1 is

by_found : (bytes : List ℕ) {r : Result (ℕ × List ℕ) Cause} → Answers bytes r
    → IfOk r (λ found. carried bytes ≡ Some (found.0, found.1))
by_found bytes (OutOfRange out) = tt
by_found bytes (CarriesNone least most none) = tt
by_found bytes (Found found least most is) = is

by_none : (bytes : List ℕ) {r : Result (ℕ × List ℕ) Cause} → Answers bytes r
    → OnErr r (carried bytes ≡ None)
by_none bytes (OutOfRange out) = carried-out_of_range bytes out
by_none bytes (CarriesNone least most none) = none
by_none bytes (Found found least most is) = tt

by_general : (bytes : List ℕ) {r : Result (ℕ × List ℕ) Cause} → Answers bytes r
    → (r ≡ Err General) ↔ ((length bytes < 8) ⊎ (276 < length bytes))
by_general bytes (OutOfRange out) = (λ _. out, λ _. refl)
by_general bytes (CarriesNone least most none) =
    (λ e. cc, λ out. elim out [ inl few ↦ absurd (omega arith) | inr many ↦ absurd (omega arith) ])
by_general bytes (Found found least most is) =
    (λ e. cc, λ out. elim out [ inl few ↦ absurd (omega arith) | inr many ↦ absurd (omega arith) ])

by_bad : (bytes : List ℕ) {r : Result (ℕ × List ℕ) Cause} → Answers bytes r → (r ≡ Err BadPacket)
    ↔ ((8 ≤ length bytes) × (length bytes ≤ 276)
    × ((ack : ℕ) (packet : List ℕ) → Carries bytes ack packet → ⊥))
by_bad bytes (OutOfRange out) = (
  λ e.
      cc,
  λ h. let least = h.0 in let most = h.1 in
      elim out [ inl few ↦ absurd (omega arith) | inr many ↦ absurd (omega arith) ],
)
by_bad bytes (CarriesNone least most none) =
    (λ _. (least, most, (carried-none bytes).0 none), λ _. refl)
by_bad bytes (Found found least most is) =
    (λ e. cc, λ h. absurd (h.2 found.0 found.1 (Carries-from_carried bytes found.0 found.1 is)))

by_other : (bytes : List ℕ) {r : Result (ℕ × List ℕ) Cause} → Answers bytes r
    → IfErr r (λ cause. (cause ≡ General) ⊎ (cause ≡ BadPacket))
by_other bytes (OutOfRange out) = inl refl
by_other bytes (CarriesNone least most none) = inr refl
by_other bytes (Found found least most is) = tt

-- what any answer that is the one of the definition says
pub record Says (bytes : List ℕ) (r : Result (ℕ × List ℕ) Cause) : Type 0 where
  pub ok : IfOk r (λ found. Carries bytes found.0 found.1)
  pub found : IfOk r (λ found. carried bytes ≡ Some (found.0, found.1))
  pub none : OnErr r (carried bytes ≡ None)
  pub general : (r ≡ Err General) ↔ ((length bytes < 8) ⊎ (276 < length bytes))
  pub bad_packet : (r ≡ Err BadPacket) ↔ ((8 ≤ length bytes) × (length bytes ≤ 276)
      × ((ack : ℕ) (packet : List ℕ) → Carries bytes ack packet → ⊥))
  pub no_other : IfErr r (λ cause. (cause ≡ General) ⊎ (cause ≡ BadPacket))

pub says-checked : (bytes : List ℕ) (r : Result (ℕ × List ℕ) Cause) → r ≡ checked bytes
    → Says bytes r
says-checked bytes r is =
    let answer : Answers bytes r = subst (Answers bytes) (sym is) (answers bytes) in
    record {
      ok = by_ok bytes answer;
      found = by_found bytes answer;
      none = by_none bytes answer;
      general = by_general bytes answer;
      bad_packet = by_bad bytes answer;
      no_other = by_other bytes answer;
    }
