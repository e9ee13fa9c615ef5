-- The texts of traces are lawful.
use Rattle.std.specs.Prelude.{◌≡◌, ℕ, List, length, map}
use Rattle.fabric_script.specs.declared.lines.Numbered.{Numbered}
use Rattle.fabric_script.specs.Known.{Known}
use Rattle.fabric_script.specs.Scripts.{ScriptPasses}
use Rattle.trace_lines.specs.Lines.{TraceLine, steps_of}
use Rattle.trace_lines.specs.Text.{trace_line_text}
use Rattle.fabric_trace.specs.Runs.{bare, set_up_all, Runs}
use Rattle.script_input.specs.Inputs.{IsInput}
use Rattle.trace_check.specs.Lawful.{IsLawful}
use Rattle.trace_check.specs.Outcomes.{HasLawful}
use Rattle.lawful_traces.specs.Knowing.{KnowsScript, LinesAreNumbered, lines_of_set_up}

-- the texts of lines, without their line feeds
abbrev pub trace_texts : List (List ℕ) → List TraceLine → List (List ℕ)
trace_texts names lines = map (trace_line_text names) lines

-- Every trace of a script is a lawful text, of as many steps as it has.
abbrev pub TracesAreLawful : Type 0
TracesAreLawful = (names : List (List ℕ)) (script : List Numbered) (lines : List TraceLine)
    (known : Known) → ScriptPasses names script → LinesAreNumbered script
    → KnowsScript names script known → Runs script lines
    → IsLawful known (set_up_all bare script) (trace_texts names lines) (length (steps_of lines))

-- So an input of the same set-up lines, with these texts behind the line `---`, is lawful.
abbrev pub InputsOfTracesAreLawful : Type 0
InputsOfTracesAreLawful = (bytes : List ℕ) (set_up : List Numbered) (known : Known)
    (texts names : List (List ℕ)) (script : List Numbered) (lines : List TraceLine)
    → ScriptPasses names script → LinesAreNumbered script → Runs script lines
    → IsInput bytes set_up known texts → known.names ≡ names
    → lines_of_set_up set_up ≡ lines_of_set_up script → texts ≡ trace_texts names lines
    → HasLawful bytes (length (steps_of lines))
