-- Each event is over when the next one begins, by the lines alone: nothing was found that was not
-- sent, and a link that was to settle is at rest.
use Rattle.std.specs.Prelude.{◌≡◌, List, [], ◌∷◌, Option, Some, None}
use Rattle.link_machine.specs.Rest.{IsSettled}
use Rattle.fabric_script.specs.declared.ports.PortRef.{PortRef}
use Rattle.fabric_script.specs.declared.lines.Line.{Line}
use Rattle.fabric_script.specs.declared.lines.Line.TheVariants.{Settle}
use Rattle.fabric_model.specs.Network.{link_in}
use Rattle.trace_lines.specs.Lines.{TraceLine, Begun, Ended, Undetected}
use Rattle.fabric_trace.specs.Known.{Seen, link_at}
use Rattle.fabric_trace.specs.Fold.{seen_line}

-- the port whose link an event settles
abbrev pub settled_by : Line → Option PortRef
settled_by (Settle port) = Some port
settled_by _ = None

-- the same of the event that is under way, after one more line
abbrev pub under_way : Option PortRef → TraceLine → Option PortRef
under_way port (Begun line) = settled_by line
under_way port _ = port

-- the link of the port, if there is one, is at rest
abbrev pub RestsAt : Seen → Option PortRef → Type 0
RestsAt s None = Unit {0}
RestsAt s (Some port) = (link : PortRef × PortRef) → link_in s.network.links port ≡ Some link
    → IsSettled (link_at s link.0 link.1)

-- The event that was under way is over where another begins, or the trace ends. The line that names
-- an undetected event cuts it, and names what was found in it.
abbrev pub IsOver : Seen → Option PortRef → TraceLine → Type 0
IsOver s port (Begun line) = (s.undetected ≡ None) × RestsAt s port
IsOver s port Ended = (s.undetected ≡ None) × RestsAt s port
IsOver s port (Undetected number q e) = s.undetected ≡ Some (record { port = q; event = e })
IsOver s port _ = Unit {0}

-- at each line, with the port whose link the event under way settles
abbrev pub Settled : Seen → Option PortRef → List TraceLine → Type 0
Settled s port [] = Unit {0}
Settled s port (line ∷ lines) =
    IsOver s port line × Settled (seen_line s line) (under_way port line) lines
