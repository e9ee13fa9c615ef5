-- Small runs, and lines of which the laws do not hold.
use Rattle.std.specs.Prelude.{ℕ, ◌+◌, ◌*◌, List, [], ◌∷◌, ◌++◌, Some}
use Rattle.rio_chars.specs.declared.chars.Char.{Char}
use Rattle.rio_chars.specs.declared.chars.Char.TheVariants.{Data, Special, Invalid}
use Rattle.link_model.specs.declared.event.Event.TheVariants.{Ctl, Pkt}
use Rattle.link_model.specs.Symbols.{packet_accepted}
use Rattle.fabric_script.specs.declared.ports.PortRef.{PortRef}
use Rattle.fabric_script.specs.declared.lines.Line.TheVariants.{Endpoint, Switch, Link, Credits, Send, Pump, Deliver, Alter, Insert, Timeout, Settle, Move, Collect}
use Rattle.fabric_script.specs.declared.lines.Numbered.{Numbered}
use Rattle.maint_registers.specs.Devices.{new_switch}
use Rattle.fabric_model.specs.Network.{Item, Network, port_of, with_lane}
use Rattle.fabric_model.specs.Laws.Examples.{packet}
use Rattle.fabric_model.specs.Steps.{Hold, Free, Take, Leave, Move as MoveOn, Drop, Linked, AtNode, ByDevice}
use Rattle.trace_lines.specs.Lines.{Empty, Short, Early, NoStep, Sent, Got, Fired, TraceLine, Begun, Stepped, Signed, Lacked, Ended, Undetected}
use Rattle.fabric_trace.specs.Known.{Seen}
use Rattle.fabric_trace.specs.Fold.{seen}
use Rattle.fabric_trace.specs.Frees.{Gotten}
use Rattle.fabric_trace.specs.Runs.{bare, set_up_all, begins}

-- the ports of two endpoints
abbrev pub near : PortRef
near = port_of 0

abbrev pub far : PortRef
far = port_of 1

-- two endpoints and a link between them
abbrev pub pair_lines : List Numbered
pair_lines =
    record { number = 1; line = Endpoint 0 0 }
    ∷ record { number = 2; line = Endpoint 1 1 }
    ∷ record { number = 3; line = Link near far }
    ∷ []

abbrev pub pair_network : Network
pair_network = set_up_all bare pair_lines

-- A port with nothing to send takes a turn; characters are asked for, and one is altered, that do
-- not stand on the wire; a time-out fires; a character comes in, so that the next does not; nothing
-- is held.
abbrev pub idle_script : List Numbered
idle_script =
    record { number = 1; line = Endpoint 0 0 }
    ∷ record { number = 2; line = Endpoint 1 1 }
    ∷ record { number = 3; line = Link near far }
    ∷ record { number = 4; line = Pump near 1 }
    ∷ record { number = 5; line = Deliver near 1 }
    ∷ record { number = 6; line = Alter far 0 Invalid }
    ∷ record { number = 7; line = Timeout near }
    ∷ record { number = 8; line = Insert far 0 Invalid }
    ∷ record { number = 9; line = Timeout near }
    ∷ record { number = 10; line = Collect 1 }
    ∷ []

abbrev pub idle_trace : List TraceLine
idle_trace =
    Begun (Pump near 1)
    ∷ Begun (Deliver near 1) ∷ Lacked Short
    ∷ Begun (Alter far 0 Invalid) ∷ Lacked Short
    ∷ Begun (Timeout near) ∷ Signed (Fired near)
    ∷ Begun (Insert far 0 Invalid)
    ∷ Begun (Timeout near) ∷ Lacked Early
    ∷ Begun (Collect 1) ∷ Lacked Empty
    ∷ Ended
    ∷ []

-- ---- a packet on its way

-- between start-of-packet and end-of-packet, as it is sent with ackID 0
abbrev pub packet_chars : List Char
packet_chars =
    Special 0x7c ∷ Data 0x80 ∷ Data 0xf8 ∷ Data 0x1f
    ∷ Data 0x00 ∷ Data 0x0f ∷ Data 0x02 ∷ Data 0x01 ∷ Data 0xca ∷ Data 0xfe
    ∷ Data 0x00 ∷ Data 0x01 ∷ Data 0xa9 ∷ Data 0xbb ∷ Data 0x00 ∷ Data 0x00
    ∷ Special 0x7c ∷ Data 0x80 ∷ Data 0xfa ∷ Data 0x18 ∷ []

-- packet-accepted, with ackID 0
abbrev pub accepted_chars : List Char
accepted_chars = Special 0x1c ∷ Data 0x00 ∷ Data 0xff ∷ Data 0x16 ∷ []

-- It is taken, sent, held, acknowledged, freed and collected.
abbrev pub packet_script : List Numbered
packet_script =
    record { number = 1; line = Endpoint 0 1 }
    ∷ record { number = 2; line = Endpoint 1 2 }
    ∷ record { number = 3; line = Link near far }
    ∷ record { number = 4; line = Send 0 0 15 2 (0xca ∷ 0xfe ∷ 0x00 ∷ 0x01 ∷ []) }
    ∷ record { number = 5; line = Pump near 1 }
    ∷ record { number = 6; line = Deliver near 20 }
    ∷ record { number = 7; line = Deliver far 4 }
    ∷ record { number = 8; line = Collect 1 }
    ∷ []

abbrev pub packet_trace : List TraceLine
packet_trace =
    Begun (Send 0 0 15 2 (0xca ∷ 0xfe ∷ 0x00 ∷ 0x01 ∷ [])) ∷ Stepped (AtNode (Take 0 packet))
    ∷ Begun (Pump near 1) ∷ Signed (Sent near packet_chars)
    ∷ Begun (Deliver near 20) ∷ Signed (Got far packet_chars)
    ∷ Stepped (Linked (Hold far packet)) ∷ Signed (Sent far accepted_chars)
    ∷ Begun (Deliver far 4) ∷ Signed (Got near accepted_chars)
    ∷ Stepped (Linked (Free near packet))
    ∷ Begun (Collect 1) ∷ Stepped (AtNode (Leave 1 packet))
    ∷ Ended
    ∷ []

-- ---- a port that tells its free buffers

-- status with NOP: ackID 0 is expected, and 8 buffers are free
abbrev pub status_chars : List Char
status_chars = Special 0x1c ∷ Data 0x80 ∷ Data 0x47 ∷ Data 0x06 ∷ []

-- One of two ports tells. Each has nothing to send and takes a turn, and the other gets the status.
abbrev pub telling_script : List Numbered
telling_script =
    record { number = 1; line = Endpoint 0 1 }
    ∷ record { number = 2; line = Endpoint 1 2 }
    ∷ record { number = 3; line = Link near far }
    ∷ record { number = 4; line = Credits near }
    ∷ record { number = 5; line = Pump near 1 }
    ∷ record { number = 6; line = Pump far 1 }
    ∷ record { number = 7; line = Deliver near 4 }
    ∷ []

abbrev pub telling_trace : List TraceLine
telling_trace =
    Begun (Pump near 1) ∷ Signed (Sent near status_chars)
    ∷ Begun (Pump far 1)
    ∷ Begun (Deliver near 4) ∷ Signed (Got far status_chars)
    ∷ Ended
    ∷ []

-- ---- switches

-- a switch has nothing to move
abbrev pub switch_script : List Numbered
switch_script =
    record { number = 1; line = Switch 0 2 } ∷ record { number = 2; line = Move 0 } ∷ []

abbrev pub switch_trace : List TraceLine
switch_trace = Begun (Move 0) ∷ Lacked NoStep ∷ Ended ∷ []

-- a packet of this priority with transport type 2, which a switch drops
abbrev pub unrouted : ℕ → List ℕ
unrouted r = 0 ∷ (r * 64 + 0x22) ∷ 0 ∷ 0 ∷ 0 ∷ 1 ∷ []

-- a switch has received a packet of priority 0 at port 0, and one of this priority at port 1
abbrev pub two_held : ℕ → Network
two_held r = record bare {
  registers = new_switch 2 0 ∷ [];
  received = with_lane (with_lane (λ p q. []) (at 0) 0 (held 0 0)) (at 1) r (held 1 r);
}
  where
    at : ℕ → PortRef
    at port = record { node = 0; port = port }

    held : ℕ → ℕ → List Item
    held port prio =
        record { number = port; port = at port; taken = unrouted prio; now = unrouted prio } ∷ []

-- the switch drops the packet of this port and this priority
abbrev pub dropped_at : ℕ → ℕ → List TraceLine
dropped_at port r = Stepped (ByDevice (Drop record { node = 0; port = port } (unrouted r))) ∷ []

-- a switch moves a packet that came to one of its ports to another
abbrev pub moved_to : ℕ → ℕ → ℕ → List ℕ → List TraceLine
moved_to node from to packet =
    Stepped (ByDevice (MoveOn record { node = node; port = from } record { node = node; port = to }
    packet)) ∷ []

-- a port of a link line is joined with itself
abbrev pub joined_with_itself : List Numbered
joined_with_itself = record { number = 1; line = Link near near } ∷ []

-- a packet is held that nobody sent
abbrev pub held_from_nowhere : List TraceLine
held_from_nowhere = Stepped (Linked (Hold far [])) ∷ []

-- of what a port got it holds the second packet first
abbrev pub held_in_wrong_order : List Char → List ℕ → List ℕ → List TraceLine
held_in_wrong_order chars first second =
    Signed (Got far chars) ∷ Stepped (Linked (Hold far second))
    ∷ Stepped (Linked (Hold far first)) ∷ []

-- a port frees a packet, and frees two
abbrev pub frees_once : List TraceLine
frees_once = Stepped (Linked (Free near [])) ∷ []

abbrev pub freed_twice : List TraceLine
freed_twice = Stepped (Linked (Free near [])) ∷ Stepped (Linked (Free near [])) ∷ []

-- a port gets a character that was not on the wire
abbrev pub got_from_nowhere : List TraceLine
got_from_nowhere = Signed (Got far (Invalid ∷ [])) ∷ []

-- a port gets another character than its peer sent
abbrev pub got_another : Char → Char → List TraceLine
got_another sent other = Signed (Sent near (sent ∷ [])) ∷ Signed (Got far (other ∷ [])) ∷ []

-- a character is still on its way
abbrev pub still_under_way : List TraceLine
still_under_way = Signed (Sent near (Invalid ∷ [])) ∷ []

-- an acceptance is acted on that nobody sent, and all events are carried out
abbrev pub acted_from_nowhere : List TraceLine
acted_from_nowhere = Signed (Got far accepted_chars) ∷ Ended ∷ []

-- an event is named as not sent, and was sent
abbrev pub named_though_sent : List TraceLine
named_though_sent =
    Signed (Sent near accepted_chars) ∷ Signed (Got far accepted_chars)
    ∷ Undetected 1 far (Ctl (packet_accepted 0 31)) ∷ []

-- a link was to settle, and a character is still on its way at the end
abbrev pub not_settled : List TraceLine
not_settled = Begun (Settle near) ∷ Signed (Sent near (Invalid ∷ [])) ∷ Ended ∷ []

-- the same, and another event begins
abbrev pub not_settled_yet : List TraceLine
not_settled_yet =
    Begun (Settle near) ∷ Signed (Sent near (Invalid ∷ [])) ∷ Begun (Collect 1) ∷ []

-- an event begins
abbrev pub goes_on_with : List TraceLine
goes_on_with = Begun (Collect 1) ∷ []

-- a port is named with an event that was not sent
abbrev pub named_at : PortRef → List TraceLine
named_at port = Undetected 1 port (Pkt 0 []) ∷ []

-- link-request, and a link-response that names the ackID 5 as the next, where nothing is
-- outstanding
abbrev pub request_chars : List Char
request_chars = Special 0x1c ∷ Data 0x80 ∷ Data 0xfc ∷ Data 0x87 ∷ []

abbrev pub response_beyond_chars : List Char
response_beyond_chars = Special 0x1c ∷ Data 0xc5 ∷ Data 0x87 ∷ Data 0x07 ∷ []

-- A sender asks after a time-out, and the response names more packets than are outstanding.
abbrev pub fails_in_a_delivery : List TraceLine
fails_in_a_delivery =
    Signed (Fired near) ∷ Signed (Sent near request_chars)
    ∷ Signed (Sent far response_beyond_chars) ∷ Signed (Got near response_beyond_chars) ∷ []

-- the sender has failed where the next event begins
abbrev pub fails_in_a_run : List TraceLine
fails_in_a_run = fails_in_a_delivery ++ Begun (Collect 1) ∷ []

-- an event was found not to be sent
abbrev pub found_before : Seen
found_before =
    record (begins pair_network) { undetected = Some (record { port = far; event = Pkt 0 [] }) }

-- a port gets an acceptance that nobody sent, and then something more
abbrev pub got_behind_a_find : List TraceLine
got_behind_a_find = Signed (Got far accepted_chars) ∷ got_from_nowhere

-- a packet is freed behind a delivery, but in another event
abbrev pub freed_later : List TraceLine
freed_later = Signed (Got near accepted_chars) ∷ Begun (Collect 1) ∷ frees_once

-- the first two characters of an acceptance came before, and the last two in the last delivery
abbrev pub accepted_in_pieces : Gotten
accepted_in_pieces = record {
  before = Special 0x1c ∷ Data 0x00 ∷ [];
  last = Data 0xff ∷ Data 0x16 ∷ [];
}

-- the acceptance came one delivery earlier, and the last delivery completed nothing
abbrev pub accepted_before : Gotten
accepted_before = record { before = accepted_chars; last = Special 0x1c ∷ Data 0x00 ∷ [] }

-- a port sends a packet that it does not have
abbrev pub sent_from_nowhere : List TraceLine
sent_from_nowhere = Signed (Sent near packet_chars) ∷ []

-- a time-out fires
abbrev pub fires_once : List TraceLine
fires_once = Signed (Fired near) ∷ []

-- a character is on its way
abbrev pub moving : Seen
moving = seen (begins pair_network) still_under_way
