-- No sender fails, by the lines alone.
use Rattle.std.specs.Prelude.{◌≢◌, List, [], ◌∷◌}
use Rattle.link_model.specs.Output as out
use Rattle.fabric_script.specs.declared.ports.PortRef.{PortRef}
use Rattle.trace_lines.specs.Lines.{TraceLine}
use Rattle.fabric_trace.specs.Known.{Seen}
use Rattle.fabric_trace.specs.Fold.{seen_line}

-- no port's sender has failed
abbrev pub NoneFailed : Seen → Type 0
NoneFailed s = (p : PortRef) → (s.halves p).output ≢ out.Output.Failed

-- before each line, and behind the last one
abbrev pub NeverFail : Seen → List TraceLine → Type 0
NeverFail s [] = NoneFailed s
NeverFail s (line ∷ lines) = NoneFailed s × NeverFail (seen_line s line) lines
