-- That all that ports acted on was sent, line by line.
use Rattle.std.specs.Prelude.{◌≡◌, List, [], ◌∷◌, Some, None}
use Rattle.fabric_script.specs.declared.ports.PortRef.{PortRef}
use Rattle.fabric_model.specs.Network.{Network}
use Rattle.trace_lines.specs.Lines.{Got, TraceLine, Signed}
use Rattle.fabric_trace.specs.Faithful.{ActsOnSent}
use Rattle.fabric_trace.specs.Known.{Seen, peer_of}
use Rattle.fabric_trace.specs.Fold.{seen_line, seen}
use Rattle.fabric_trace.specs.Parts.{Made}
use Rattle.fabric_trace.specs.Runs.{begins}
use Rattle.fabric_trace.specs.SetUps.{IsSetUp}

-- where a port gets characters, all that it acts on of them was sent
abbrev pub IsSentActing : Seen → TraceLine → Type 0
IsSentActing s (Signed (Got q chars)) =
    (p : PortRef) → peer_of s q ≡ Some p → ActsOnSent s p q chars
IsSentActing s _ = Unit {0}

-- at each line
abbrev pub AreSentActing : Seen → List TraceLine → Type 0
AreSentActing s [] = Unit {0}
AreSentActing s (line ∷ lines) = IsSentActing s line × AreSentActing (seen_line s line) lines

-- Lines made of parts, by which nothing was found that was not sent.
abbrev pub UnfoundIsSent : Type 0
UnfoundIsSent = (net : Network) (lines : List TraceLine) → IsSetUp net → Made (begins net) lines
    → (seen (begins net) lines).undetected ≡ None → AreSentActing (begins net) lines
