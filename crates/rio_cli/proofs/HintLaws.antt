-- What is told of a trace is so.
use Rattle.std.proofs.Common.{◌≡◌, ℕ, ◌-◌, List, ◌++◌, Option, Some, None, IsSome, IfSome, Result, Ok, Err, IfOk, OnOk, subst}
use Rattle.check_words.specs.Forms.{IsFormWhy}
use Rattle.check_words.specs.Reasons.{trace_reason}
use Rattle.refusal_words.specs.Advising.{IsWhy}
use Rattle.std.specs.declared.alloc.AllocError.{AllocError}
use Rattle.trace_check.specs.declared.expecting.Expected.{Expected}
use Rattle.trace_check.specs.Expecting.{HasExpected, IsExplained}
use Rattle.trace_check.specs.Outcomes.{HasUnlawful}
use Rattle.rio_cli.specs.declared.command.Command.TheVariants.{Check}
use Rattle.rio_cli.specs.Messages.{IsExpectedBy, input_line_text, IsWhyOf}

-- what is told by a reason that explains itself
pub expected_told : (bytes : List ℕ) (line reason : ℕ)
    (result : Result (Option Expected) AllocError)
    → IfOk result (λ expected. IfSome expected (HasExpected bytes line))
    → IfOk result (λ expected. (reason : ℕ) → HasUnlawful bytes line reason → IsExplained reason
    → IsSome expected) → IsExplained reason
    → IfOk result (IsExpectedBy Check bytes line reason)
expected_told bytes line reason (Err end) told some explained = tt
expected_told bytes line reason (Ok None) told some explained = λ unlawful why.
    let is = some reason unlawful why in absurd cc
expected_told bytes line reason (Ok (Some expected)) told some explained = (explained, told)

-- why a line is none of a trace
pub why_of_form : {V E : Type 0} (bytes : List ℕ) (line reason : ℕ) (before text : List ℕ)
    (result : Result V E) (old new : List ℕ) → reason ≡ 21
    → before ≡ input_line_text bytes (line - 1) → text ≡ input_line_text bytes line
    → OnOk result ((why : List ℕ) × IsFormWhy bytes line before text why × (new ≡ old ++ why))
    → OnOk result ((why : List ℕ) × IsWhyOf Check bytes line reason why × (new ≡ old ++ why))
why_of_form bytes line reason before text (Ok value) old new is front here said =
    let form = subst (λ b. IsFormWhy bytes line b (input_line_text bytes line) said.0) front
    (subst (λ t. IsFormWhy bytes line before t said.0) here said.1) in
    (said.0, ((λ same. form), (λ other. absurd (other is))), said.2)
why_of_form bytes line reason before text (Err end) old new is front here said = tt

-- why a line is refused for another reason
pub why_of_other : {V E : Type 0} (bytes : List ℕ) (line reason : ℕ) (text meaning : List ℕ)
    (result : Result V E) (old new : List ℕ) → (reason ≡ 21 → ⊥)
    → text ≡ input_line_text bytes line → meaning ≡ trace_reason reason
    → OnOk result ((why : List ℕ) × IsWhy text meaning why × (new ≡ old ++ why))
    → OnOk result ((why : List ℕ) × IsWhyOf Check bytes line reason why × (new ≡ old ++ why))
why_of_other bytes line reason text meaning (Ok value) old new other here means said =
    let why = subst (λ m. IsWhy (input_line_text bytes line) m said.0) means
    (subst (λ t. IsWhy t meaning said.0) here said.1) in
    (said.0, ((λ same. absurd (other same)), (λ differ. why)), said.2)
why_of_other bytes line reason text meaning (Err end) old new other here means said = tt
