-- What is found not to be sent is the first such event, by the lines alone.
use Rattle.std.specs.Prelude.{◌≡◌, List, [], ◌∷◌, None}
use Rattle.trace_lines.specs.Lines.{Got, TraceLine, Signed}
use Rattle.fabric_trace.specs.Known.{Seen}
use Rattle.fabric_trace.specs.Fold.{seen_line}

-- where a port gets characters, nothing was found before
abbrev pub IsFirstFound : Seen → TraceLine → Type 0
IsFirstFound s (Signed (Got q chars)) = s.undetected ≡ None
IsFirstFound s _ = Unit {0}

-- at each line
abbrev pub FindsFirst : Seen → List TraceLine → Type 0
FindsFirst s [] = Unit {0}
FindsFirst s (line ∷ lines) = IsFirstFound s line × FindsFirst (seen_line s line) lines
