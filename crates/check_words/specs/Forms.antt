-- Why a line is no line of a trace, in words.
use Rattle.std.specs.Prelude.{◌≡◌, ◌⊎◌, ℕ, ◌<◌, ◌==◌, List, ◌∷◌, ◌++◌, codes, length, if◌then◌else◌}
use Rattle.fabric_script.specs.declared.lines.Numbered.{Numbered}
use Rattle.fabric_script.specs.Known.{Known}
use Rattle.fabric_script.specs.Lines.{words_of}
use Rattle.fabric_script.specs.SetUps.{IsRefused}
use Rattle.fabric_script.specs.Words.{first_word}
use Rattle.script_input.specs.Inputs.{IsAccepted, texts_of}
use Rattle.refusal_words.specs.Advising.{IsPlainWhy, IsWhy}
use Rattle.refusal_words.specs.Reasons.{script_reason}
use Rattle.check_words.specs.declared.misfits.Misfit.{Misfit}
use Rattle.check_words.specs.Misfits.{IsMisfit}
use Rattle.check_words.specs.MisfitTexts.{misfit_text}
use Rattle.check_words.specs.Reasons.{trace_reason}

-- why a line of a script is no event of a trace
abbrev pub event_reason : ℕ → List ℕ
event_reason reason =
    if reason == 12 then codes "a line that sets the fabric up is no event"
    else script_reason reason

-- What is said of a text that is no line of a trace: what its bytes alone show; why it is no event
-- behind the sign of one; or what of its words is to blame.
pub data IsTextWhy (known : Known) (text : List ℕ) : List ℕ → Type 0 where
  ShownPlain : {why : List ℕ} → IsPlainWhy text why → IsTextWhy known text why
  OfRefusedEvent : {why : List ℕ} (event : List ℕ) (number : ℕ) → text ≡ 62 ∷ 32 ∷ event
      → IsRefused known event number → IsWhy event (event_reason number) why
      → IsTextWhy known text (codes "behind the >, " ++ why)
  OfWords : (misfit : Misfit) → IsMisfit known text misfit
      → IsTextWhy known text (misfit_text misfit)

-- the last line of a trace, as a text
abbrev pub EndsTrace : List ℕ → Type 0
EndsTrace text = (text ≡ codes "end") ⊎ (first_word (words_of text) ≡ codes "undetected")

-- What is said of a line of an input that has no form, or is none: `before` is the text of the line
-- before it, and `text` its own.
pub data IsFormWhy (bytes : List ℕ) (line : ℕ) (before text : List ℕ) : List ℕ → Type 0 where
  NoLastLine : length (texts_of bytes) < line
      → IsFormWhy bytes line before text (codes "the trace has no line end at its end")
  BehindTheLast : 1 < line → EndsTrace before → IsFormWhy bytes line before text
      (codes "the line before ends the trace, and none may stand behind it")
  OfText : {why : List ℕ} (set_up : List Numbered) (known : Known)
      → IsAccepted bytes set_up known → IsTextWhy known text why
      → IsFormWhy bytes line before text why
  OfReason : IsFormWhy bytes line before text (trace_reason 21)
