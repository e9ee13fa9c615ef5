-- What a call does.
use Rattle.std.specs.Prelude.{◌≡◌, ℕ, List, [], ◌∷◌}
use Rattle.library_calls.specs.declared.status.CallStatus.{CallStatus}
use Rattle.library_calls.specs.declared.status.CallStatus.TheVariants.{Closed, Done, Open}
use Rattle.library_calls.specs.Statuses.{call_number}

-- The number that it answers says that the handle is closed, which it stays, and what else holds
-- then.
-- Or it says the status of what is done of the one thing that an open handle has, and the handle
-- stays open.
abbrev pub Calls : {X : Type 0} → Type 0 → (X → CallStatus → X → Type 0) → List X → ℕ → List X →
    Type 0
Calls untouched Does [] number after =
    (number ≡ call_number Closed) × (after ≡ []) × untouched
Calls {X} untouched Does (old ∷ others) number after = (status : CallStatus) × (new : X)
    × (number ≡ call_number status) × (after ≡ new ∷ []) × Does old status new

-- the same of a call that is always done
abbrev pub Always : {X : Type 0} → (X → X → Type 0) → X → CallStatus → X → Type 0
Always Does old Done new = Does old new
Always Does old _ new = ⊥

-- What opening does, by the number that it answers: an open handle stays as it is.
abbrev pub OpensBy : {X : Type 0} → (CallStatus → List X → Type 0) → List X → ℕ → List X → Type 0
OpensBy Opens [] number after = (status : CallStatus) × (number ≡ call_number status) × Opens
    status after
OpensBy Opens (old ∷ others) number after = (number ≡ call_number Open) × (after ≡ old ∷ others)

-- What closing does: the handle is closed, and a closed one is told of.
abbrev pub ClosesBy : {X : Type 0} → List X → ℕ → List X → Type 0
ClosesBy [] number after = (number ≡ call_number Closed) × (after ≡ [])
ClosesBy (old ∷ others) number after = (number ≡ call_number Done) × (after ≡ [])

-- What a call without a handle does, by the number that it answers.
abbrev pub AnswersNumber : (CallStatus → Type 0) → ℕ → Type 0
AnswersNumber Does number = (status : CallStatus) × (number ≡ call_number status) × Does status
