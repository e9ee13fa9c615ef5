-- A test of reasons: the least that passes it, or none does.
use Rattle.std.proofs.Common.{◌≡◌, ℕ, ◌≤◌, Bool, true, false, List, [], ◌∷◌, get_or, refl, sym, ap, ◌∙◌, ◌⊎◌, inl, inr, arith}
use Rattle.std.proofs.lemmas.Bool.{cases_eq, cases_Bool}
use Rattle.fabric_script.specs.declared.reasons.Reason.{Reason}
use Rattle.fabric_script.specs.declared.reasons.Reason.TheVariants.{UnknownLine, BadNumber, BadName, NameTaken, UnknownNode, PortOutside, PortTaken, IdTaken, BadHex, BadLength, WrongKind, OutOfPlace, NotLinked, TooMuchWork}
use Rattle.fabric_script.specs.Reasons.{reason_number}
use Rattle.fabric_script.proofs.Outcomes.{number_in_range}
use Rattle.script_law.proofs.Choosing.{Decided, first_or_none}

reasons : List Reason
reasons = UnknownLine ∷ UnknownLine ∷ BadNumber ∷ BadName ∷ NameTaken ∷ UnknownNode ∷ PortOutside
    ∷ PortTaken ∷ IdTaken ∷ BadHex ∷ BadLength ∷ WrongKind ∷ OutOfPlace ∷ NotLinked ∷ TooMuchWork
    ∷ []

-- the reason of a number
reason_at : ℕ → Reason
reason_at n = get_or reasons n UnknownLine

reason_at-number : (reason : Reason) → reason_at (reason_number reason) ≡ reason
unfolding reason_at reasons
reason_at-number UnknownLine = refl
reason_at-number BadNumber = refl
reason_at-number BadName = refl
reason_at-number NameTaken = refl
reason_at-number UnknownNode = refl
reason_at-number PortOutside = refl
reason_at-number PortTaken = refl
reason_at-number IdTaken = refl
reason_at-number BadHex = refl
reason_at-number BadLength = refl
reason_at-number WrongKind = refl
reason_at-number OutOfPlace = refl
reason_at-number NotLinked = refl
reason_at-number TooMuchWork = refl

-- a reason of this number passes the test
abbrev Passed : (Reason → Bool) → ℕ → Type 0
Passed test n = (reason : Reason) × (reason_number reason ≡ n) × (test reason ≡ true)

passed_or_not : (test : Reason → Bool) (n : ℕ) → Decided (Passed test n)
passed_or_not test n = elim (cases_eq (reason_number (reason_at n)) n) [
  | inl numbered ↦ elim (cases_Bool (test (reason_at n))) [
    | inl passes ↦ inl (reason_at n, numbered, passes)
    | inr fails ↦ inr (λ passed.
        let e = ap test (there passed) ∙ passed.2 in
        cc)
  ]
  | inr other ↦ inr (λ passed. other (ap reason_number (there passed) ∙ passed.1))
]
  where
    there : (passed : Passed test n) → reason_at n ≡ passed.0
    there passed = ap reason_at (sym passed.1) ∙ reason_at-number passed.0

-- the least reason that passes a test, or none passes it
pub least_or_none : (test : Reason → Bool)
    → ((reason : Reason) × (test reason ≡ true)
    × ((other : Reason) → test other ≡ true → reason_number reason ≤ reason_number other))
    ⊎ ((reason : Reason) → test reason ≡ false)
least_or_none test = elim (first_or_none (Passed test) (passed_or_not test) 15) [
  | inl found ↦ inl (
    found.is.0,
    found.is.2,
    λ other passes.
        let low = found.least (reason_number other) (other, refl, passes) in
        omega (arith, found.is.1),
  )
  | inr none ↦ inr (λ reason. elim (cases_Bool (test reason)) [
    | inl passes ↦
        let range = number_in_range reason in
        absurd (none (reason_number reason) (omega arith) (reason, refl, passes))
    | inr fails ↦ fails
  ])
]
