-- What may stand in a trace, whatever script it is of: one part after another, each in the state
-- that is reached.
use Rattle.std.specs.Prelude.{◌≡◌, ◌<◌, ℕ, true, List, [], ◌∷◌, ◌++◌, Some, None}
use Rattle.rio_packets.specs.Fields.{prio_of}
use Rattle.link_model.specs.declared.event.Event.{Event}
use Rattle.link_watch.specs.declared.side.Side.TheVariants.{A}
use Rattle.link_machine.specs.Calls.{has_chars, pump_notes, tell_notes, delivery_notes, is_silent, time_out_notes}
use Rattle.fabric_script.specs.declared.ports.PortRef.{PortRef}
use Rattle.fabric_script.specs.declared.lines.Line.{Line}
use Rattle.fabric_model.specs.Steps.{NodeStep, Take, Leave, DeviceStep, AtNode, ByDevice, Needs}
use Rattle.trace_lines.specs.Lines.{Lack, TraceLine, Begun, Stepped, Lacked, Ended, Undetected}
use Rattle.fabric_trace.specs.Known.{Seen, peer_of, link_at}
use Rattle.fabric_trace.specs.Fold.{seen}
use Rattle.trace_lines.specs.Notes.{lines_of}

-- the packet of a step
abbrev pub packet_of : NodeStep → List ℕ
packet_of (Take n packet) = packet
packet_of (Leave n packet) = packet

-- One part, in a state. Nothing is done on a link after an event that was not sent.
pub data Part (s : Seen) (lines : List TraceLine) : Type 0 where
  -- a line with which an event begins
  PartBegins : (line : Line) → lines ≡ Begun line ∷ [] → Part s lines
  -- nothing could be done
  PartLacks : (lack : Lack) → lines ≡ Lacked lack ∷ [] → Part s lines
  -- the last line, of either kind
  PartEnds : lines ≡ Ended ∷ [] → Part s lines
  PartNames : (number : ℕ) (q : PortRef) (e : Event)
      → s.undetected ≡ Some (record { port = q; event = e }) → lines ≡ Undetected number q e ∷ []
      → Part s lines
  -- a step at an endpoint
  PartSteps : (step : NodeStep) → Needs s.network (AtNode step) → prio_of (packet_of step) < 4
      → lines ≡ Stepped (AtNode step) ∷ [] → Part s lines
  -- a step of a device
  PartServes : (step : DeviceStep) → Needs s.network (ByDevice step)
      → lines ≡ Stepped (ByDevice step) ∷ [] → Part s lines
  -- turns of a port
  PartTurns : (p q : PortRef) (n : ℕ) → peer_of s p ≡ Some q → s.undetected ≡ None
      → lines ≡ lines_of p q (pump_notes A n (link_at s p q)) → Part s lines
  -- the status of a port that tells its free buffers
  PartTells : (p q : PortRef) → peer_of s p ≡ Some q → s.undetected ≡ None
      → lines ≡ lines_of p q (tell_notes A (link_at s p q)) → Part s lines
  -- characters of the wire of p come to q
  PartDelivers : (p q : PortRef) (n : ℕ) → peer_of s p ≡ Some q → s.undetected ≡ None
      → has_chars A n (link_at s p q) ≡ true
      → lines ≡ lines_of p q (delivery_notes A n (link_at s p q)) → Part s lines
  -- a time-out, where both wires are empty
  PartFires : (p q : PortRef) → peer_of s p ≡ Some q → s.undetected ≡ None
      → is_silent (link_at s p q) ≡ true
      → lines ≡ lines_of p q (time_out_notes A (link_at s p q)) → Part s lines

-- parts, one after another
pub data Made : Seen → List TraceLine → Type 0 where
  Done : {s : Seen} {lines : List TraceLine} → lines ≡ [] → Made s lines
  Then : {s : Seen} {lines : List TraceLine} (first rest : List TraceLine) → lines ≡ first ++ rest
      → Part s first → Made (seen s first) rest → Made s lines
