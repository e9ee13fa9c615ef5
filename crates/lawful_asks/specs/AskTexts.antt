-- The texts of asks are lawful.
use Rattle.std.specs.Prelude.{◌≡◌, ℕ, List, [], ◌∷◌, ◌++◌, length}
use Rattle.rio_chars.specs.declared.edit.Edit.{Edit}
use Rattle.fabric_script.specs.Known.{Known}
use Rattle.fabric_script.specs.Scripts.{ScriptPasses}
use Rattle.fabric_script.specs.declared.lines.Numbered.{Numbered}
use Rattle.trace_lines.specs.Lines.{TraceLine, Ended, steps_of}
use Rattle.fabric_trace.specs.Known.{Seen}
use Rattle.fabric_trace.specs.Runs.{bare, set_up_all, start}
use Rattle.script_input.specs.Inputs.{IsInput}
use Rattle.trace_check.specs.Lawful.{IsLawful}
use Rattle.trace_check.specs.Outcomes.{HasLawful}
use Rattle.lawful_traces.specs.Knowing.{KnowsScript, lines_of_set_up}
use Rattle.lawful_traces.specs.Texts.{trace_texts}
use Rattle.fabric_maint.specs.Asked.{Asked}
use Rattle.fabric_maint.specs.Going.{LeadsTo}

-- The lines of asks of a host, from the state behind the set-up lines on and with no edits, are
-- lawful texts if `end` stands behind them.
abbrev pub AsksAreLawful : Type 0
AsksAreLawful = (names : List (List ℕ)) (script : List Numbered) (host tid next : ℕ)
    (lines : List TraceLine) (left : List Edit) (end : Seen) (known : Known)
    → ScriptPasses names script → KnowsScript names script known
    → Asked [] host (start script) tid lines left end next
    → LeadsTo host (start script) lines end
    → IsLawful known (set_up_all bare script) (trace_texts names (lines ++ Ended ∷ []))
    (length (steps_of lines))

-- So an input of the same set-up lines, with these texts behind the line `---`, is lawful.
abbrev pub InputsOfAsksAreLawful : Type 0
InputsOfAsksAreLawful = (bytes : List ℕ) (set_up : List Numbered) (known : Known)
    (texts : List (List ℕ)) (names : List (List ℕ)) (script : List Numbered)
    (host tid next : ℕ) (lines : List TraceLine) (left : List Edit) (end : Seen)
    → ScriptPasses names script → Asked [] host (start script) tid lines left end next
    → LeadsTo host (start script) lines end
    → IsInput bytes set_up known texts → known.names ≡ names
    → lines_of_set_up set_up ≡ lines_of_set_up script
    → texts ≡ trace_texts names (lines ++ Ended ∷ [])
    → HasLawful bytes (length (steps_of lines))
