-- The set-up lines and the lines behind them make a script, or one of them is refused.
use Rattle.std.proofs.Common.{◌≡◌, ℕ, ◌+◌, ◌≤◌, List, length, Option, Some, None, option_map, refl, sym, ap, ◌∙◌, subst}
use denote.Ref.{Bor}
use Rattle.fabric_script.specs.declared.lines.Numbered.{Numbered}
use Rattle.fabric_script.specs.Known.{Known, of_set_up}
use Rattle.fabric_script.specs.Scripts.{IsScriptIn, RefusedIn}
use Rattle.fabric_script.specs.SetUps.{for_event}
use Rattle.script_input.specs.Inputs.{Hit, IsAccepted, IsInput, IsRefusedInput, NotParted, set_up_bytes, set_up_texts, texts_behind, texts_of}
use Rattle.script_input.proofs.InputLaws.{accepted_by, all_set_up}
use Rattle.io_script.specs.declared.lines.NumberedIo.{NumberedIo}
use Rattle.io_script.specs.IoReading.{nothing_earlier}
use Rattle.io_script.specs.IoScripts.{AreHitFrom, Behind, InSetUp, IsIoRefused, IsIoScript, SpellIoFrom}
use Rattle.io_script.specs.IoTaking.{links_among, switches_of, IsFabric}
use Rattle.io_script.proofs.IoFabric.{fabric_of}

-- the set-up lines are refused
pub set_up_refused : (bytes set_up : List ℕ) (line reason : ℕ) → set_up ≡ set_up_bytes bytes
    → RefusedIn of_set_up set_up line reason → IsIoRefused bytes line reason
set_up_refused bytes set_up line reason is refused =
    InSetUp (Hit (subst (λ (b : List ℕ). RefusedIn of_set_up b line reason) is refused))

module _ (bytes set_up : List ℕ) (names : List (List ℕ)) (lines : List Numbered) (count : ℕ)
    (found : Option (Bor (List ℕ))) (is : set_up ≡ set_up_bytes bytes)
    (counted : count ≡ length (set_up_texts (texts_of bytes)))
    (parted : option_map (λ behind. texts_of behind.now) found ≡ texts_behind (texts_of bytes))
    (script : IsScriptIn of_set_up set_up names lines) where
  accepted : IsAccepted bytes lines (for_event script.0)
  accepted = accepted_by bytes set_up lines (for_event script.0) is (script.0, script.2, refl)

  -- there is no line between
  pub not_parted : found ≡ None → IsIoRefused bytes (count + 1) 15
  not_parted none =
      let nothing = sym parted ∙ ap (λ o. option_map (λ behind. texts_of behind.now) o) none in
      let all = counted ∙ ap length (all_set_up (texts_of bytes) nothing) in
      InSetUp (subst (λ n. IsRefusedInput bytes (n + 1) 15) (sym all) (NotParted accepted nothing))

  module _ (behind : Bor (List ℕ)) (there : found ≡ Some behind)
      (short : length set_up ≤ 16777216) where
    abbrev texts : List (List ℕ)
    texts = texts_of behind.now

    input : IsInput bytes lines (for_event script.0) texts
    input = record {
      accepted = accepted;
      behind = sym parted ∙ ap (λ o. option_map (λ behind. texts_of behind.now) o) there;
    }

    -- this is so behind the set-up lines
    abbrev Holds : (Known → Type 0) → Type 0
    Holds P = (known : Known) → IsFabric known names (switches_of lines) (links_among lines)
        → P known

    fabric : IsFabric (for_event script.0) names (switches_of lines) (links_among lines)
    fabric = fabric_of set_up names lines short script

    -- the lines behind it spell these
    pub whole_script : (io : List NumberedIo)
        → Holds (λ known. SpellIoFrom (count + 2) known nothing_earlier texts io)
        → IsIoScript bytes names lines io
    whole_script io spelled = record {
      known = for_event script.0;
      texts = texts;
      input = input;
      named = script.1;
      spelled =
          subst (λ n. SpellIoFrom (n + 2) (for_event script.0) nothing_earlier texts io) counted
          (spelled (for_event script.0) fabric);
    }

    -- one of them is hit
    pub line_refused : (line reason : ℕ)
        → Holds (λ known. AreHitFrom (count + 2) known nothing_earlier texts line reason)
        → IsIoRefused bytes line reason
    line_refused line reason hit =
        Behind input
        (subst (λ n. AreHitFrom (n + 2) (for_event script.0) nothing_earlier texts line reason)
        counted (hit (for_event script.0) fabric))
