-- What is sent, if the packet is named by its place in its list.
use Rattle.std.specs.Prelude.{◌≡◌, ℕ, ◌<◌, List, [], ◌∷◌, Option, Some, None, slice_get}
use Rattle.rio_symbols.specs.Fields.{Fields}
use Rattle.rio_symbols.specs.declared.stype1.TheConstants.{START_OF_PACKET, END_OF_PACKET}
use Rattle.link_buffers.specs.Queues.{list_at}
use Rattle.link_model.specs.ReadingSpelt.{packet_chars_of}
use Rattle.link_model.specs.Symbols.{start_of_packet, end_of_packet, restart_from_retry, link_request, status}
use Rattle.link_model.specs.declared.event.Event.TheVariants.{Ctl, Pkt}
use Rattle.link_port.specs.declared.output_half.Sends.{Sends}
use Rattle.link_port.specs.declared.output_half.Sends.TheVariants as Sent
use Rattle.link_port.specs.declared.sending.Standing.{Standing}
use Rattle.link_port.specs.declared.sending.Sending.{Sending}
use Rattle.link_port.specs.declared.sending.Sending.TheVariants as sending
use Rattle.link_port.specs.Turns.{Burst, no_burst, symbol_burst}

-- an ackID and a buffer status fit into a symbol
pub record IsStanding (at : Standing) : Type 0 where
  pub expected : at.expected < 32
  pub buffers : at.buffers < 32

-- the ackID and the priority of a packet that starts are in range
abbrev pub HasRange : Sends → Type 0
HasRange (Sent.Packet started) = (started.ack < 32) × (started.prio < 4)
HasRange Sent.Restart = Unit {0}
HasRange Sent.Request = Unit {0}
HasRange Sent.Status = Unit {0}
HasRange Sent.Nothing = Unit {0}

-- a packet with its ackID, between its two symbols
abbrev pub burst_between : Fields → ℕ → Option (List ℕ) → Fields → Burst
burst_between start ack None end = no_burst
burst_between start ack (Some packet) end = record {
  chars = packet_chars_of start ack packet end;
  sent = Ctl start ∷ Pkt ack packet ∷ Ctl end ∷ [];
}

-- what a sending is, if these packets are to be sent
abbrev pub sending_burst : Sending → List (List (List ℕ)) → Burst
sending_burst sending.Nothing queued = no_burst
sending_burst (sending.Symbol symbol) queued = symbol_burst symbol
sending_burst (sending.Packet start ack prio place end) queued =
    burst_between start ack (slice_get (list_at queued prio) place) end

-- a packet that is sent has an ackID and a priority in range, and stands between its two symbols
pub record IsFramed (start : Fields) (ack prio : ℕ) (end : Fields) : Type 0 where
  pub below : ack < 32
  pub few : prio < 4
  pub starts : start.s1 ≡ START_OF_PACKET
  pub ends : end.s1 ≡ END_OF_PACKET

-- the same of whatever is sent
abbrev pub IsSending : Sending → Type 0
IsSending sending.Nothing = Unit {0}
IsSending (sending.Symbol symbol) = Unit {0}
IsSending (sending.Packet start ack prio place end) = IsFramed start ack prio end

-- what is sent, from a port that stands so
abbrev pub sending_of : Sends → Standing → Sending
sending_of (Sent.Packet started) at =
    sending.Packet (start_of_packet at.expected at.buffers) started.ack started.prio started.place
    (end_of_packet at.expected at.buffers)
sending_of Sent.Restart at = sending.Symbol (restart_from_retry at.expected at.buffers)
sending_of Sent.Request at = sending.Symbol (link_request at.expected at.buffers)
sending_of Sent.Status at = sending.Symbol (status at.expected at.buffers)
sending_of Sent.Nothing at = sending.Nothing
