-- Every event that a port acts on was sent, but for one that ends a trace and is named, by the
-- lines alone.
use Rattle.std.specs.Prelude.{◌≡◌, Bool, true, false, List, [], ◌∷◌, ◌++◌, Some}
use Rattle.rio_chars.specs.declared.chars.Char.{Char}
use Rattle.link_model.specs.Said.{said}
use Rattle.link_wires.specs.Acting.{acted_all}
use Rattle.link_wires.specs.Kept.{IsSubsequence}
use Rattle.fabric_script.specs.declared.ports.PortRef.{PortRef}
use Rattle.trace_lines.specs.Lines.{Got, TraceLine, Begun, Signed, Ended, Undetected}
use Rattle.fabric_trace.specs.Known.{Seen, peer_of, port_seen}
use Rattle.fabric_trace.specs.Fold.{seen_line}

-- What was acted on from the wire of p since the last silence, and behind it all that the step
-- tables have q act on of these characters, stands in this order among what was sent on the wire
-- since then.
abbrev pub ActsOnSent : Seen → PortRef → PortRef → List Char → Type 0
ActsOnSent s p q chars =
    IsSubsequence ((s.wires p).acted
    ++ acted_all (port_seen s q) (said (port_seen s q).place chars))
    (s.wires p).sent

-- whether the trace goes on behind a delivery: another event begins, a port gets characters, or all
-- events were carried out
abbrev pub trace_goes_on : List TraceLine → Bool
trace_goes_on [] = false
trace_goes_on (Begun line ∷ lines) = true
trace_goes_on (Signed (Got q chars) ∷ lines) = true
trace_goes_on (Ended ∷ lines) = true
trace_goes_on (line ∷ lines) = trace_goes_on lines

-- whether an event that was not sent is named behind it, before any of that
abbrev pub names_undetected : List TraceLine → Bool
names_undetected [] = false
names_undetected (Begun line ∷ lines) = false
names_undetected (Signed (Got q chars) ∷ lines) = false
names_undetected (Ended ∷ lines) = false
names_undetected (Undetected number q e ∷ lines) = true
names_undetected (line ∷ lines) = names_undetected lines

-- All that the port acts on was sent if the trace goes on, and was not if an event is named.
pub record IsFaithful (s : Seen) (p q : PortRef) (chars : List Char) (behind : List TraceLine)
    : Type 0 where
  pub sent : trace_goes_on behind ≡ true → ActsOnSent s p q chars
  pub undetected : names_undetected behind ≡ true → ActsOnSent s p q chars → ⊥

abbrev pub FaithfulLine : Seen → TraceLine → List TraceLine → Type 0
FaithfulLine s (Signed (Got q chars)) behind =
    (p : PortRef) → peer_of s q ≡ Some p → IsFaithful s p q chars behind
FaithfulLine s _ behind = Unit {0}

-- at each line
abbrev pub Faithful : Seen → List TraceLine → Type 0
Faithful s [] = Unit {0}
Faithful s (line ∷ lines) = FaithfulLine s line lines × Faithful (seen_line s line) lines
