-- The one fold that reads a trace: what is known after each of its lines, by the lines alone.
use Rattle.std.specs.Prelude.{ℕ, ◌==◌, true, List, [], ◌∷◌, ◌++◌, length, drop, Option, Some, None, if◌then◌else◌}
use Rattle.rio_chars.specs.declared.chars.Char.{Char}
use Rattle.rio_packets.specs.Fields.{prio_of}
use Rattle.rio_symbols.specs.declared.stype1.TheConstants.{RESTART_FROM_RETRY, LINK_REQUEST}
use Rattle.link_model.specs.declared.event.Event.{Event}
use Rattle.link_model.specs.declared.event.Event.TheVariants.{Ctl, Pkt, Bad}
use Rattle.link_model.specs.Output as out
use Rattle.link_model.specs.Outstanding.{from_ack, with_next}
use Rattle.link_model.specs.Places.{place_start}
use Rattle.link_model.specs.Said.{said}
use Rattle.link_port.specs.Turns.{timed_out}
use Rattle.link_wires.specs.Deliveries.{Delivered, Through, WentUndetected, delivered, told_of, undetected}
use Rattle.link_wires.specs.Wires.{fits, edited}
use Rattle.rio_chars.specs.declared.edit.Edit.{Edit}
use Rattle.fabric_script.specs.declared.ports.PortRef.{PortRef}
pub use Rattle.fabric_script.specs.Operations.{edit_of}
use Rattle.fabric_model.specs.Steps.{after}
use Rattle.trace_lines.specs.Lines.{Sign, Sent, Got, Fired, TraceLine, Begun, Stepped, Signed, Lacked, Ended, Undetected}
use Rattle.fabric_trace.specs.Views.{Half, half_of}
use Rattle.fabric_trace.specs.Known.{Wire, UndetectedAt, Seen, with_wire, with_half, peer_of, port_seen, kept_of}

-- ---- edits

-- the characters after it: where it does not fit, nothing changes
abbrev pub changed : Edit → List Char → List Char
changed edit chars = if fits edit chars then edited edit chars else chars

abbrev pub edited_by : Seen → Option (PortRef × Edit) → Seen
edited_by s None = s
edited_by s (Some edit) = record s {
  wires = with_wire s.wires edit.0
      (record (s.wires edit.0) { chars = changed edit.1 (s.wires edit.0).chars });
}

-- ---- characters that are sent

-- the events that characters say by themselves
abbrev pub says : List Char → List Event
says chars = said place_start chars

-- What a sender is after a symbol was sent: a restart ends Retry-stopped, and a link-request is
-- noted. The other symbols change nothing.
abbrev pub symbol_leaves : ℕ → out.Output → out.Output
symbol_leaves s1 (out.Output.Ok w) = out.Output.Ok w
symbol_leaves s1 (out.Output.RetryStopped w) =
    if s1 == RESTART_FROM_RETRY then out.Output.Ok (from_ack w.oldest w.report)
    else out.Output.RetryStopped w
symbol_leaves s1 (out.Output.ErrorStopped asked w) =
    if s1 == LINK_REQUEST then out.Output.ErrorStopped true w else out.Output.ErrorStopped asked w
symbol_leaves s1 out.Output.Failed = out.Output.Failed

-- after a packet was sent: one more is outstanding
abbrev pub packet_leaves : ℕ → out.Output → out.Output
packet_leaves prio (out.Output.Ok w) = out.Output.Ok (with_next w prio)
packet_leaves prio (out.Output.RetryStopped w) = out.Output.RetryStopped w
packet_leaves prio (out.Output.ErrorStopped asked w) = out.Output.ErrorStopped asked w
packet_leaves prio out.Output.Failed = out.Output.Failed

-- after an event was sent, and after events
abbrev pub event_leaves : Event → out.Output → out.Output
event_leaves (Ctl symbol) output = symbol_leaves symbol.s1 output
event_leaves (Pkt ack packet) output = packet_leaves (prio_of packet) output
event_leaves (Bad cause) output = output

unfoldable pub sends : out.Output → List Event → out.Output
sends output [] = output
sends output (e ∷ es) = sends (event_leaves e output) es

-- a wire with more characters, and what they say
abbrev pub wire_sent : Wire → List Char → Wire
wire_sent wire chars = record {
  chars = wire.chars ++ chars;
  sent = wire.sent ++ says chars;
  acted = wire.acted;
}

abbrev pub half_sent : Half → List Char → Half
half_sent half chars = record half { output = sends half.output (says chars) }

-- ---- characters that are taken

-- what a port does with characters of its peer's wire
abbrev pub taken_from : Seen → PortRef → PortRef → List Char → Delivered
taken_from s p q chars = delivered (port_seen s q) (kept_of (s.wires p)) chars

-- The half of a port after characters. It stays as it was where an event was not sent: nothing
-- follows.
abbrev pub half_after : Half → Delivered → Half
half_after half (Through flow) = half_of flow.port
half_after half (WentUndetected told e) = half

abbrev pub undetected_at : PortRef → Option Event → Option UndetectedAt
undetected_at q None = None
undetected_at q (Some e) = Some (record { port = q; event = e })

abbrev pub got_from : Seen → Option PortRef → PortRef → List Char → Seen
got_from s None q chars = s
got_from s (Some p) q chars = record s {
  wires = with_wire s.wires p (record {
    chars = drop (length chars) (s.wires p).chars;
    sent = (s.wires p).sent;
    acted = (s.wires p).acted ++ (told_of (taken_from s p q chars)).acted;
  });
  halves = with_half s.halves q (half_after (s.halves q) (taken_from s p q chars));
  undetected = undetected_at q (undetected (taken_from s p q chars));
}

-- ---- time-outs

-- what was sent before is not spoken of any more
abbrev pub wire_silenced : Wire → Wire
wire_silenced wire = record wire { sent = []; acted = [] }

abbrev pub fired_from : Seen → Option PortRef → PortRef → Seen
fired_from s None p = s
fired_from s (Some q) p = record s {
  wires = with_wire (with_wire s.wires p (wire_silenced (s.wires p))) q (wire_silenced (s.wires q));
  halves = with_half s.halves p (half_of (timed_out (port_seen s p)));
}

-- ---- lines

abbrev pub signed : Seen → Sign → Seen
signed s (Sent p chars) = record s {
  wires = with_wire s.wires p (wire_sent (s.wires p) chars);
  halves = with_half s.halves p (half_sent (s.halves p) chars);
}
signed s (Got q chars) = got_from s (peer_of s q) q chars
signed s (Fired p) = fired_from s (peer_of s p) p

-- what is known after one more line
abbrev pub seen_line : Seen → TraceLine → Seen
seen_line s (Begun line) = edited_by s (edit_of line)
seen_line s (Stepped step) = record s { network = after s.network step }
seen_line s (Signed sign) = signed s sign
seen_line s (Lacked lack) = s
seen_line s Ended = s
seen_line s (Undetected number q e) = s

abbrev pub seen : Seen → List TraceLine → Seen
seen s [] = s
seen s (line ∷ lines) = seen (seen_line s line) lines
