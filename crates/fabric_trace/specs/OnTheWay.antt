-- No sender fails within a delivery, also if it finds an event that was not sent, by the lines
-- alone.
use Rattle.std.specs.Prelude.{◌≡◌, ◌≢◌, ℕ, List, [], ◌∷◌, take, Some}
use Rattle.rio_chars.specs.declared.chars.Char.{Char}
use Rattle.link_model.specs.Output as out
use Rattle.link_model.specs.Prelude.{run}
use Rattle.link_port.specs.Prelude.{PortState}
use Rattle.link_wires.specs.Prelude.{begun}
use Rattle.link_machine.specs.OnTheWay.{port_reached}
use Rattle.fabric_script.specs.declared.ports.PortRef.{PortRef}
use Rattle.fabric_trace.specs.Fold.{seen_line}
use Rattle.fabric_trace.specs.Known.{Seen, peer_of, port_seen, kept_of}
use Rattle.trace_lines.specs.Lines.{Got, TraceLine, Signed}

-- the port q after so many events of characters that come to it from p
abbrev pub reached_from : Seen → PortRef → PortRef → ℕ → List Char → PortState
reached_from s p q events chars =
    port_reached (take events (run (port_seen s q).place 0 chars))
    (begun (port_seen s q) (kept_of (s.wires p)))

abbrev pub WorksWithin : Seen → TraceLine → Type 0
WorksWithin s (Signed (Got q chars)) = (p : PortRef) (events : ℕ) → peer_of s q ≡ Some p
    → (reached_from s p q events chars).output ≢ out.Output.Failed
WorksWithin s _ = Unit {0}

-- at each line
abbrev pub NeverFailWithin : Seen → List TraceLine → Type 0
NeverFailWithin s [] = Unit {0}
NeverFailWithin s (line ∷ lines) = WorksWithin s line × NeverFailWithin (seen_line s line) lines
