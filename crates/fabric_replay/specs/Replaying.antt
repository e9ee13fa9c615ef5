-- What a replay writes.
use Rattle.std.specs.Prelude.{◌≡◌, ◌≢◌, ◌⊎◌, ℕ, List, [], ◌∷◌, ◌++◌, Option, Some, None, codes}
use Rattle.std.specs.Io.KnownBytes.{Appends}
use Rattle.link_model.specs.declared.event.Event.{Event}
use Rattle.fabric_script.specs.declared.ports.PortRef.{PortRef}
use Rattle.fabric_script.specs.declared.lines.Numbered.{Numbered}
use Rattle.fabric_model.specs.Laws.Freeing.{IsFront}
use Rattle.fabric_trace.specs.Fold.{seen}
use Rattle.fabric_trace.specs.Known.{UndetectedAt}
use Rattle.trace_lines.specs.Lines.{TraceLine, Ended, Undetected}
use Rattle.fabric_trace.specs.Runs.{start, Runs, Begins}
use Rattle.fabric_trace.specs.Shown.{Shown}
use Rattle.trace_lines.specs.Text.{trace_line_text, trace_text}

-- The text of the one trace of the script was written, and all laws hold of it.
pub record Replayed (names : List (List ℕ)) (script : List Numbered)
    (written written_after : Option (List ℕ)) : Type 0 where
  pub lines : List TraceLine
  pub told : Appends written written_after (trace_text names lines)
  pub runs : Runs script lines
  pub only : (other : List TraceLine) → Runs script other → other ≡ lines
  pub shown : Shown script lines

-- The last line is this one, and so much is found by the lines before it of an event that was acted
-- on and not sent.
pub record EndsWith (script : List Numbered) (lines : List TraceLine) (last : TraceLine)
    (found : Option UndetectedAt) : Type 0 where
  pub front : List TraceLine
  pub ends : lines ≡ front ++ last ∷ []
  pub finds : (seen (start script) front).undetected ≡ found

-- All events were carried out, and every event that was acted on was sent.
pub record ReplayedWhole (names : List (List ℕ)) (script : List Numbered)
    (written written_after : Option (List ℕ)) : Type 0 where
  pub replayed : Replayed names script written written_after
  pub ends : EndsWith script replayed.lines Ended None

-- The events were carried out up to this one, which the port acted on and which was not sent: the
-- first of its kind.
pub record ReplayedUndetected (names : List (List ℕ)) (script : List Numbered) (line : ℕ)
    (port : PortRef) (event : Event) (written written_after : Option (List ℕ)) : Type 0 where
  pub replayed : Replayed names script written written_after
  pub ends : EndsWith script replayed.lines (Undetected line port event)
      (Some (record { port = port; event = event }))

-- bytes are less than the text of the first of these lines, with its line feed
abbrev pub IsPartOfLine : List (List ℕ) → List TraceLine → List ℕ → Type 0
IsPartOfLine names [] bytes = bytes ≡ []
IsPartOfLine names (line ∷ lines) bytes = (left : List ℕ) × (left ≢ [])
    × (trace_line_text names line ++ codes "\n" ≡ bytes ++ left)

-- A front of the text was written: these whole lines, and a part of the one behind them. With what
-- comes behind, the lines are the trace, or the blocks of its first events, and so they are a front
-- of any trace. All laws hold of them.
pub record ReplayedFront (names : List (List ℕ)) (script : List Numbered)
    (written written_after : Option (List ℕ)) : Type 0 where
  pub lines : List TraceLine
  pub behind : List TraceLine
  pub part : List ℕ
  pub told : Appends written written_after (trace_text names lines ++ part)
  pub cut : IsPartOfLine names behind part
  pub begins : Begins script (lines ++ behind) ⊎ Runs script (lines ++ behind)
  pub front : (all : List TraceLine) → Runs script all → IsFront lines all
  pub shown : Shown script lines
