-- A checker of lines and a check of a whole input agree.
use Rattle.std.proofs.Common.{◌↔◌, ℕ, ◌+◌, List, length, refl, arith}
use Rattle.fabric_script.specs.SetUps.{SetUpLines}
use Rattle.fabric_trace.specs.Runs.{bare, set_up_all}
use Rattle.script_input.specs.Inputs.{IsInput, set_up_bytes, set_up_texts, texts_of}
use Rattle.script_input.proofs.InputLaws.{accepted_by}
use Rattle.script_input.proofs.InputOnce.{for_other}
use Rattle.trace_check.specs.declared.checking.Unlawful.{Unlawful}
use Rattle.trace_check.specs.Lawful.{IsLawful}
use Rattle.trace_check.specs.Outcomes.{HasLawful, HasUnlawful}
use Rattle.trace_check.specs.Starting.{net_of}
use Rattle.trace_check.specs.Taken.{ArePartsOf, IsHitAt}
use Rattle.trace_check.proofs.Telling.{unlawful_for}

module _ (bytes : List ℕ) (set_up : SetUpLines) (texts : List (List ℕ))
    (parts : ArePartsOf bytes set_up texts) where
  input : IsInput bytes set_up.lines set_up.known texts
  input = record {
    accepted = accepted_by bytes (set_up_bytes bytes) set_up.lines set_up.known refl parts.made;
    behind = parts.behind;
  }

  pub agree_lawful : (steps : ℕ)
      → IsLawful set_up.known (net_of set_up) texts steps ↔ HasLawful bytes steps
  agree_lawful steps = (
    λ lawful. record {
      set_up = set_up.lines;
      known = set_up.known;
      texts = texts;
      input = input;
      lawful = lawful;
    },
    λ has. for_other bytes (λ l k t. IsLawful k (set_up_all bare l) t steps) set_up.lines
        has.set_up set_up.known has.known texts has.texts input has.input has.lawful,
  )

  pub agree_hit : (hit : Unlawful) → IsHitAt set_up texts hit
      ↔ HasUnlawful bytes (length (set_up_texts (texts_of bytes)) + 1 + hit.line) hit.reason
  agree_hit hit = (
    λ is.
        let at = is.1 in record {
          set_up = set_up.lines;
          known = set_up.known;
          texts = texts;
          input = input;
          place = is.0;
          at = omega (arith, at);
          unlawful = is.2;
        },
    λ has.
        let at = has.at in (has.place, omega (arith, at), unlawful_for input has),
  )
