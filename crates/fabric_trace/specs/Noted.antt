-- Each packet that a port frees stands in the notes of a delivery to it, by the lines alone: behind
-- a `got` of the port, with nothing but holds and frees between.
use Rattle.std.specs.Prelude.{◌≡◌, Bool, true, false, List, [], ◌∷◌}
use Rattle.fabric_script.specs.declared.ports.PortRef.{PortRef}
use Rattle.fabric_model.specs.Network.{same_port}
use Rattle.fabric_model.specs.Steps.{Free, Linked}
use Rattle.trace_lines.specs.Lines.{Got, TraceLine, Stepped, Signed}

-- whether the notes of a delivery to the port are under way, after one more line
abbrev pub is_noting : PortRef → Bool → TraceLine → Bool
is_noting p now (Signed (Got q chars)) = same_port p q
is_noting p now (Stepped (Linked step)) = now
is_noting p now _ = false

abbrev pub FreeNoted : PortRef → Bool → TraceLine → Type 0
FreeNoted p now (Stepped (Linked (Free q packet))) = same_port p q ≡ true → now ≡ true
FreeNoted p now _ = Unit {0}

-- at each line
abbrev pub FreesNoted : PortRef → Bool → List TraceLine → Type 0
FreesNoted p now [] = Unit {0}
FreesNoted p now (line ∷ lines) =
    FreeNoted p now line × FreesNoted p (is_noting p now line) lines
