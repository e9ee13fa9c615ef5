-- What is said of a line that has no form is so.
use Rattle.std.proofs.Common.{◌≡◌, ℕ, Bool, true, false, List, ◌∷◌, ◌++◌, codes, MatchBool, Result, Ok, Err, OnOk, is_ok, if◌then◌else◌, ap, ◌∙◌, subst, append_assoc}
use Rattle.fabric_script.specs.declared.lines.Numbered.{Numbered}
use Rattle.fabric_script.specs.Known.{Known}
use Rattle.fabric_script.specs.SetUps.{IsRefused}
use Rattle.script_input.specs.Inputs.{IsAccepted}
use Rattle.refusal_words.specs.Advising.{IsPlainWhy, IsWhy}
use Rattle.check_words.specs.declared.misfits.Misfit.{Misfit}
use Rattle.check_words.specs.Misfits.{IsMisfit}
use Rattle.check_words.specs.MisfitTexts.{misfit_text}
use Rattle.check_words.specs.Forms.{event_reason, IsFormWhy, IsTextWhy, OfRefusedEvent, OfText, OfWords, ShownPlain}

-- this is said of a line
abbrev pub SaysForm : List ℕ → ℕ → List ℕ → List ℕ → List ℕ → List ℕ → Type 0
SaysForm bytes line before text old new =
    (why : List ℕ) × IsFormWhy bytes line before text why × (new ≡ old ++ why)

-- this is said of a text
abbrev pub SaysText : Known → List ℕ → List ℕ → List ℕ → Type 0
SaysText known text old new =
    (why : List ℕ) × IsTextWhy known text why × (new ≡ old ++ why)

-- it was said, if memory was there
pub form-said : {V E : Type 0} (bytes : List ℕ) (line : ℕ) (before text why : List ℕ)
    (result : Result V E) (old new : List ℕ) → IsFormWhy bytes line before text why
    → new ≡ (if is_ok result then old ++ why else old)
    → OnOk result (SaysForm bytes line before text old new)
form-said bytes line before text why (Ok value) old new so added = (why, so, added)
form-said bytes line before text why (Err end) old new so added = tt

-- what is said of the text is said of the line
pub form-of_text : {V E : Type 0} (bytes : List ℕ) (line : ℕ) (before text : List ℕ)
    (known : Known) (result : Result V E) (old new : List ℕ) (set_up : List Numbered)
    → IsAccepted bytes set_up known → OnOk result (SaysText known text old new)
    → OnOk result (SaysForm bytes line before text old new)
form-of_text bytes line before text known (Ok value) old new set_up accepted said =
    (said.0, OfText set_up known accepted said.1, said.2)
form-of_text bytes line before text known (Err end) old new set_up accepted said = tt

-- what of its words is to blame
pub text-of_words : {V E : Type 0} (known : Known) (text : List ℕ) (result : Result V E)
    (old new : List ℕ) (misfit : Misfit) → IsMisfit known text misfit
    → OnOk result (new ≡ old ++ misfit_text misfit) → OnOk result (SaysText known text old new)
text-of_words known text (Ok value) old new misfit so said =
    (misfit_text misfit, OfWords misfit so, said)
text-of_words known text (Err end) old new misfit so said = tt

-- what its bytes alone show
pub text-plain : (known : Known) (text old new : List ℕ) (found : Bool) → found ≡ true
    → MatchBool found ((why : List ℕ) × IsPlainWhy text why × (new ≡ old ++ why)) (new ≡ old)
    → SaysText known text old new
text-plain known text old new true is said = (said.0, ShownPlain said.1, said.2)
text-plain known text old new false is said = absurd cc

-- why it is no event behind its sign
pub text-of_event : {V E : Type 0} (known : Known) (text event meaning : List ℕ) (number : ℕ)
    (result : Result V E) (old mid new : List ℕ) → text ≡ 62 ∷ 32 ∷ event
    → IsRefused known event number → meaning ≡ event_reason number
    → mid ≡ old ++ codes "behind the >, "
    → OnOk result ((why : List ℕ) × IsWhy event meaning why × (new ≡ mid ++ why))
    → OnOk result (SaysText known text old new)
text-of_event known text event meaning number (Ok value) old mid new is refused means begin said = (
  codes "behind the >, " ++ said.0,
  OfRefusedEvent event number is refused (subst (λ m. IsWhy event m said.0) means said.1),
  said.2 ∙ ap (λ m. m ++ said.0) begin ∙ append_assoc old (codes "behind the >, ") said.0,
)
text-of_event known text event meaning number (Err end) old mid new is refused means begin said = tt
