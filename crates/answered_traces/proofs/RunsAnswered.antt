-- The texts of a trace of a script are answered, and nothing is due after it.
use Rattle.answered_traces.proofs.Prelude.{◌≡◌, ℕ, ◌++◌, List, [], ◌∷◌, drop, None, refl, sym, ap, ◌∙◌, subst, Event, Numbered, PortRef, TraceLine, Ended, Undetected, seen, Seen, bare, set_up_all, start, Runs, seen-append, InputKept, after_lines, reactions_before, ReactionsKept, LinesAreNumbered}
use Rattle.fabric_script.specs.Known.{Known, IsOrderly, nothing, of_script}
use Rattle.fabric_script.specs.Scripts.{ScriptPasses}
use Rattle.fabric_script.specs.SetUps.{SetUpLines}
use Rattle.fabric_script.proofs.KnownLaws.{nothing-orderly}
use Rattle.fabric_trace.specs.Ends.{EndsAs, Whole, EndsNaming}
use Rattle.fabric_trace.proofs.SetUps.Happening.{may_set_up}
use Rattle.fabric_trace.proofs.SetUps.Starting.{set_up_bare, good_start, made, ends_as}
use Rattle.trace_check.specs.Lawful.{SpellAll}
use Rattle.trace_check.proofs.Exclusive.{same_line}
use Rattle.trace_reactions.specs.Judged.{AreAnswered, TextsSpell}
use Rattle.lawful_traces.specs.Texts.{trace_texts}
use Rattle.lawful_traces.proofs.Ending.{runs_close}
use Rattle.lawful_traces.proofs.Events.{names_orderly}
use Rattle.lawful_traces.proofs.Spelling.{made_spell}
use Rattle.answered_traces.specs.Answered.{JudgesScript, TracesAreAnswered, NothingIsDueAfterATrace}
use Rattle.answered_traces.proofs.PartsKept.{StaysKept}
use Rattle.answered_traces.proofs.PartsMade.{made_stays}
use Rattle.answered_traces.proofs.SetUpKept.{start_keeps}

-- ---- texts

texts_spell : (known : Known) (texts : List (List ℕ)) (lines : List TraceLine)
    → SpellAll known texts lines → TextsSpell known texts lines
texts_spell known [] lines all = absurd all
texts_spell known (text ∷ []) lines all =
    subst (TextsSpell known (text ∷ [])) (sym all.1) (all.2, tt)
texts_spell known (text ∷ next ∷ texts) lines all =
    subst (TextsSpell known (text ∷ next ∷ texts)) (sym all.2)
    (all.3, texts_spell known (next ∷ texts) all.1 all.5)

-- texts spell one list of lines
spelled_once : (known : Known) (texts : List (List ℕ)) (first second : List TraceLine)
    → IsOrderly known → TextsSpell known texts first → TextsSpell known texts second
    → first ≡ second
spelled_once known [] [] [] orderly one two = refl
spelled_once known [] [] (y ∷ second) orderly one two = absurd two
spelled_once known [] (x ∷ first) second orderly one two = absurd one
spelled_once known (text ∷ texts) [] second orderly one two = absurd one
spelled_once known (text ∷ texts) (x ∷ first) [] orderly one two = absurd two
spelled_once known (text ∷ texts) (x ∷ first) (y ∷ second) orderly one two =
    λ i. same_line orderly one.0 two.0 i
    ∷ spelled_once known texts first second orderly one.1 two.1 i

-- ---- the last line

some_lines : (lines : List TraceLine) (line : TraceLine) → [] ≡ lines ++ line ∷ [] → ⊥
some_lines [] line is = absurd cc
some_lines (x ∷ lines) line is = absurd cc

-- a trace that ended names no event
ends_once : (front other : List TraceLine) (number : ℕ) (q : PortRef) (e : Event)
    → front ++ Ended ∷ [] ≡ other ++ Undetected number q e ∷ [] → ⊥
ends_once [] [] number q e is = absurd cc
ends_once [] (y ∷ other) number q e is = some_lines other (Undetected number q e) (ap (drop 1) is)
ends_once (x ∷ front) [] number q e is = some_lines front Ended (sym (ap (drop 1) is))
ends_once (x ∷ front) (y ∷ other) number q e is = ends_once front other number q e (ap (drop 1) is)

-- so every event that was acted on was sent
ended_none : (s : Seen) (front lines : List TraceLine) → lines ≡ front ++ Ended ∷ []
    → EndsAs s lines → (seen s lines).undetected ≡ None
ended_none s front lines ended (Whole before is none) =
    ap (λ (l : List TraceLine). (seen s l).undetected) is
    ∙ ap (λ (x : Seen). x.undetected) (seen-append s before (Ended ∷ [])) ∙ none
ended_none s front lines ended (EndsNaming before number found is some) =
    absurd (ends_once front before number found.port found.event (sym ended ∙ is))

-- ---- traces of a script

module _ (names : List (List ℕ)) (script : List Numbered)
    (lines : List TraceLine) (set_up : SetUpLines) (passes : ScriptPasses names script)
    (counted : LinesAreNumbered script) (judges : JudgesScript names script set_up)
    (runs : Runs script lines) where
  run_stays : StaysKept (reactions_before set_up.lines) (start script) lines
  run_stays =
      let may = may_set_up names script passes in
      let is = set_up_bare script may in
      made_stays (reactions_before set_up.lines) (good_start (set_up_all bare script) is)
      (λ none. start_keeps set_up.lines script is judges.same) (made script lines may runs)

  run_spells : TextsSpell set_up.known (trace_texts names lines) lines
  run_spells =
      let knows = judges.knows in
      texts_spell set_up.known (trace_texts names lines) lines
      (made_spell names script set_up.known passes knows lines
      (made script lines (may_set_up names script passes) runs)
      (runs_close set_up.known names knows.names_are knows.event script nothing (start script) lines
      refl knows.nodes_are knows.links_are passes counted runs))

  run_answered : AreAnswered set_up (trace_texts names lines)
      (after_lines (reactions_before set_up.lines) lines)
  run_answered = record {
    lines = lines;
    spelled = run_spells;
    react = run_stays.react;
    kept_is = refl;
  }

  run_ends : (front : List TraceLine) → lines ≡ front ++ Ended ∷ [] → (kept : ReactionsKept)
      → AreAnswered set_up (trace_texts names lines) kept → (p : PortRef)
      → (kept.ports p).input.due ≡ []
  run_ends front ended kept answered p =
      let orderly =
      names_orderly script nothing set_up.known names (nothing-orderly of_script) passes
      judges.knows.names_are in
      let same =
      spelled_once set_up.known (trace_texts names lines) answered.lines lines orderly
      answered.spelled run_spells in
      let keeps = run_stays.keeps (ended_none (start script) front lines ended
      (ends_as script lines runs)) in
      ap (λ (k : ReactionsKept). (k.ports p).input.due)
      (answered.kept_is ∙ ap (after_lines (reactions_before set_up.lines)) same)
      ∙ ap (λ (half : InputKept). half.due) (keeps p).input

-- ---- the laws

pub answered_traces : TracesAreAnswered
answered_traces names script lines set_up passes counted judges runs = (
  after_lines (reactions_before set_up.lines) lines,
  run_answered names script lines set_up passes counted judges runs,
)

pub nothing_due : NothingIsDueAfterATrace
nothing_due names script front lines set_up passes counted judges runs ended kept answered =
    run_ends names script lines set_up passes counted judges runs front ended kept answered
