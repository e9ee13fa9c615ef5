-- What a turn of a port and a time-out do, by the step tables.
use Rattle.std.specs.Prelude.{◌≡◌, ℕ, Bool, List, [], ◌∷◌, Option, Some, None, slice_get, if◌then◌else◌}
use Rattle.link_model.specs.Prelude.{Char, Fields, Sends, turns, times_out, symbol_chars_of, packet_chars_of, place_start, place_after, said, status, start_of_packet, end_of_packet, restart_from_retry, link_request}
use Rattle.link_buffers.specs.Prelude.{list_at, lists_without, highest}
use Rattle.link_model.specs.declared.event.Event.{Event}
use Rattle.link_model.specs.declared.event.Event.TheVariants.{Ctl, Pkt}
use Rattle.link_model.specs.Output.{Turned, starts}
use Rattle.link_receiver.specs.Status.{buffer_status}
use Rattle.link_port.specs.declared.sending.Standing.{Standing}
use Rattle.link_port.specs.States.{prios_of, expected_of}
use Rattle.link_port.specs.Ports.{PortState}

-- what is sent, as characters and as events
pub record Burst : Type 0 where
  pub chars : List Char
  pub sent : List Event

abbrev pub no_burst : Burst
no_burst = record { chars = []; sent = [] }

-- one symbol
abbrev pub symbol_burst : Fields → Burst
symbol_burst symbol = record { chars = symbol_chars_of symbol; sent = Ctl symbol ∷ [] }

-- what each symbol of a turn tells of the port that sends it
abbrev pub standing : PortState → Standing
standing port = record {
  expected = expected_of port.input;
  buffers = buffer_status port.tells port.received;
}

-- a start-of-packet symbol, a packet with its ackID, and an end-of-packet symbol, from a port that
-- stands so
abbrev pub packet_burst : Standing → ℕ → Option (List ℕ) → Burst
packet_burst at ack None = no_burst
packet_burst at ack (Some packet) =
    let first = start_of_packet at.expected at.buffers in
    let last = end_of_packet at.expected at.buffers in
    record {
      chars = packet_chars_of first ack packet last;
      sent = Ctl first ∷ Pkt ack packet ∷ Ctl last ∷ [];
    }

-- the packets that are not outstanding
abbrev pub waiting_in : PortState → List (List (List ℕ))
waiting_in port = lists_without (prios_of port.output) port.queued

-- what a burst of the table is, from a port that stands so, where these packets wait
abbrev pub burst_of : Sends → Standing → List (List (List ℕ)) → Burst
burst_of (Sends.Packet ack prio) at waiting =
    packet_burst at ack (slice_get (list_at waiting prio) 0)
burst_of Sends.Restart at waiting = symbol_burst (restart_from_retry at.expected at.buffers)
burst_of Sends.Request at waiting = symbol_burst (link_request at.expected at.buffers)
burst_of Sends.Status at waiting = symbol_burst (status at.expected at.buffers)
burst_of Sends.Nothing at waiting = no_burst

-- what the table says of a turn
abbrev pub port_turn : PortState → Turned
port_turn port = turns port.tells port.output (highest (waiting_in port))

-- whether a turn starts a packet
abbrev pub is_ready : PortState → Bool
is_ready port = starts (port_turn port).sends

-- the port after a turn
abbrev pub turns_to : PortState → PortState
turns_to port = record port { output = (port_turn port).state }

-- what a turn sends
abbrev pub turn_sends : PortState → Burst
turn_sends port = burst_of (port_turn port).sends (standing port) (waiting_in port)

-- what a port sends that tells its free buffers once more
abbrev pub tell_sends : PortState → Burst
tell_sends port =
    if port.tells then symbol_burst (status (standing port).expected (standing port).buffers)
    else no_burst

-- Read by themselves from the start, the characters of a burst say the events that it sends, and
-- nothing is in progress after them.
pub record IsRead (burst : Burst) : Type 0 where
  pub says : said place_start burst.chars ≡ burst.sent
  pub rests : place_after place_start burst.chars ≡ place_start

-- the port after a time-out
abbrev pub timed_out : PortState → PortState
timed_out port = record port { output = times_out port.output }
