-- An input has one verdict at most.
use Rattle.std.proofs.Common.{◌≡◌, ℕ, ◌+◌, List, length, sym, ap, ◌∙◌}
use Rattle.script_input.specs.Inputs.{IsRefusedInput, set_up_texts, texts_of}
use Rattle.script_input.proofs.InputOnce.{accepted_orderly, for_other, not_input}
use Rattle.fabric_script.specs.Known.{IsOrderly}
use Rattle.fabric_trace.specs.Runs.{bare, set_up_all}
use Rattle.trace_check.specs.Lawful.{IsLawful}
use Rattle.trace_check.specs.Outcomes.{HasLawful, HasUnlawful}
use Rattle.trace_check.proofs.Exclusive.{exclusive}
use Rattle.trace_check.proofs.Once.{lawful_once, unlawful_once}
use Rattle.trace_check.proofs.Telling.{unlawful_for}

orderly_of : (bytes : List ℕ) (steps : ℕ) (is : HasLawful bytes steps) → IsOrderly is.known
orderly_of bytes steps is = accepted_orderly bytes is.set_up is.known is.input.accepted

pub one_lawful : (bytes : List ℕ) (steps other : ℕ) → HasLawful bytes steps
    → HasLawful bytes other → steps ≡ other
one_lawful bytes steps other one two =
    lawful_once (orderly_of bytes steps one) one.lawful
    (for_other bytes (λ l k t. IsLawful k (set_up_all bare l) t other) one.set_up two.set_up
    one.known two.known one.texts two.texts one.input two.input two.lawful)

pub one_unlawful : (bytes : List ℕ) (line reason other_line other_reason : ℕ)
    → HasUnlawful bytes line reason → HasUnlawful bytes other_line other_reason
    → (line ≡ other_line) × (reason ≡ other_reason)
one_unlawful bytes line reason other_line other_reason one two =
    let orderly = accepted_orderly bytes one.set_up one.known one.input.accepted in
    let same = unlawful_once orderly one.unlawful (unlawful_for one.input two) in (
      one.at ∙ ap (λ n. length (set_up_texts (texts_of bytes)) + 2 + n) same.0 ∙ sym two.at,
      same.1,
    )

pub never_both : (bytes : List ℕ) (steps line reason : ℕ) → HasLawful bytes steps
    → HasUnlawful bytes line reason → ⊥
never_both bytes steps line reason one two =
    exclusive (orderly_of bytes steps one) one.lawful (unlawful_for one.input two)

pub never_refused : (bytes : List ℕ) (line reason : ℕ) → IsRefusedInput bytes line reason
    → ((steps : ℕ) → HasLawful bytes steps → ⊥)
    × ((other_line other_reason : ℕ) → HasUnlawful bytes other_line other_reason → ⊥)
never_refused bytes line reason refused = (
  λ steps one. not_input bytes line reason one.set_up one.known one.texts refused one.input,
  λ other_line other_reason one.
      not_input bytes line reason one.set_up one.known one.texts refused one.input,
)
