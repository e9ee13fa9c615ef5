-- Each packet that a port holds came to it, by the lines alone.
use Rattle.std.specs.Prelude.{ℕ, suc, ◌%◌, List, [], ◌∷◌, ◌++◌, if◌then◌else◌}
use Rattle.rio_chars.specs.declared.chars.Char.{Char}
use Rattle.link_model.specs.declared.event.Event.{Event}
use Rattle.link_model.specs.declared.event.Event.TheVariants.{Pkt}
use Rattle.link_wires.specs.Kept.{IsSubsequence}
use Rattle.fabric_script.specs.declared.ports.PortRef.{PortRef}
use Rattle.fabric_model.specs.Network.{same_port}
use Rattle.fabric_model.specs.Steps.{Hold, Free, Step, Linked, AtNode, ByDevice}
use Rattle.trace_lines.specs.Lines.{Sign, Sent, Got, Fired, TraceLine, Stepped, Signed}
use Rattle.fabric_trace.specs.Fold.{says}

-- the characters that a port got
abbrev pub got_by_sign : PortRef → Sign → List Char
got_by_sign q (Sent p chars) = []
got_by_sign q (Got p chars) = if same_port q p then chars else []
got_by_sign q (Fired p) = []

abbrev pub got_by : PortRef → TraceLine → List Char
got_by q (Signed sign) = got_by_sign q sign
got_by q _ = []

abbrev pub got : PortRef → List TraceLine → List Char
got q [] = []
got q (line ∷ lines) = got_by q line ++ got q lines

-- the packets that it holds, in order
abbrev pub held_by_step : PortRef → Step → List (List ℕ)
held_by_step q (Linked (Hold p packet)) = if same_port q p then packet ∷ [] else []
held_by_step q (Linked (Free p packet)) = []
held_by_step q (AtNode step) = []
held_by_step q (ByDevice step) = []

abbrev pub held_by_line : PortRef → TraceLine → List (List ℕ)
held_by_line q (Stepped step) = held_by_step q step
held_by_line q _ = []

abbrev pub holds : PortRef → List TraceLine → List (List ℕ)
holds q [] = []
holds q (line ∷ lines) = held_by_line q line ++ holds q lines

-- packets that come with ackIDs from a number on, modulo 32
abbrev pub numbered_packets : ℕ → List (List ℕ) → List Event
numbered_packets n [] = []
numbered_packets n (packet ∷ packets) = Pkt (n % 32) packet ∷ numbered_packets (suc n) packets

-- The i-th packet that a port holds, counted from 0, came to it with ackID i modulo 32, in the
-- order of the holds: in the reading of everything that it got.
abbrev pub HoldsCame : PortRef → List TraceLine → Type 0
HoldsCame q lines = IsSubsequence (numbered_packets 0 (holds q lines)) (says (got q lines))
