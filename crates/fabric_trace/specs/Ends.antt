-- How a trace ends.
use Rattle.std.specs.Prelude.{◌≡◌, ℕ, List, [], ◌∷◌, ◌++◌, Some, None}
use Rattle.trace_lines.specs.Lines.{TraceLine, Ended, Undetected}
use Rattle.fabric_trace.specs.Known.{UndetectedAt, Seen}
use Rattle.fabric_trace.specs.Fold.{seen}

-- With the line that says so, where every event that was acted on was sent; or with the line that
-- names the event that was not, which is the one that the lines before it show.
pub data EndsAs (s : Seen) (lines : List TraceLine) : Type 0 where
  Whole : (front : List TraceLine) → lines ≡ front ++ Ended ∷ [] → (seen s front).undetected ≡ None
      → EndsAs s lines
  EndsNaming : (front : List TraceLine) (number : ℕ) (found : UndetectedAt)
      → lines ≡ front ++ Undetected number found.port found.event ∷ []
      → (seen s front).undetected ≡ Some found → EndsAs s lines
