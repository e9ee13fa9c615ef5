-- The reactions in traces of scripts are due.
use Rattle.std.specs.Prelude.{◌≡◌, ℕ, List, [], ◌++◌, ◌∷◌}
use Rattle.fabric_script.specs.declared.lines.Numbered.{Numbered}
use Rattle.fabric_script.specs.declared.ports.PortRef.{PortRef}
use Rattle.fabric_script.specs.Scripts.{ScriptPasses}
use Rattle.fabric_script.specs.SetUps.{SetUpLines}
use Rattle.trace_lines.specs.Lines.{TraceLine, Ended}
use Rattle.fabric_trace.specs.Runs.{Runs}
use Rattle.trace_reactions.specs.Judging.{ReactionsKept}
use Rattle.trace_reactions.specs.Judged.{AreAnswered}
use Rattle.lawful_traces.specs.Knowing.{KnowsScript, LinesAreNumbered, lines_of_set_up}
use Rattle.lawful_traces.specs.Texts.{trace_texts}

-- What the judge is told of a script before the first line of a trace: the same set-up lines, and
-- the names, nodes and links that are known after them.
pub record JudgesScript (names : List (List ℕ)) (script : List Numbered) (set_up : SetUpLines) :
    Type 0 where
  pub knows : KnowsScript names script set_up.known
  pub same : lines_of_set_up set_up.lines ≡ lines_of_set_up script

-- Every trace of a script passes the judge of reactions: each reaction in it is the first that is
-- due at its port.
abbrev pub TracesAreAnswered : Type 0
TracesAreAnswered = (names : List (List ℕ)) (script : List Numbered) (lines : List TraceLine)
    (set_up : SetUpLines) → ScriptPasses names script → LinesAreNumbered script
    → JudgesScript names script set_up → Runs script lines
    → (kept : ReactionsKept) × AreAnswered set_up (trace_texts names lines) kept

-- After a trace that was not cut short by an event that was not sent, no port owes a reaction.
abbrev pub NothingIsDueAfterATrace : Type 0
NothingIsDueAfterATrace = (names : List (List ℕ)) (script : List Numbered)
    (front lines : List TraceLine) (set_up : SetUpLines) → ScriptPasses names script
    → LinesAreNumbered script → JudgesScript names script set_up → Runs script lines
    → lines ≡ front ++ Ended ∷ [] → (kept : ReactionsKept)
    → AreAnswered set_up (trace_texts names lines) kept
    → (p : PortRef) → (kept.ports p).input.due ≡ []
