-- What a character does in a port: its events are led through the step tables, one after another
-- (RapidIO Interconnect Specification 1.3, Part 6, packet acknowledgment and error recovery).
use Rattle.std.specs.Prelude.{ℕ, ◌++◌, Bool, true, false, if◌then◌else◌, List, [], ◌∷◌, take, Option, Some, None}
use Rattle.std.specs.Option.{option_or}
use Rattle.link_model.specs.Prelude.{Char, Fields, number_of, Cause, step, hears, hears_report, Received, symbol_arrival, receives, Damaged}
use Rattle.link_buffers.specs.Prelude.{stored, packets_of, lists_without}
use Rattle.link_receiver.specs.Status.{comes_to}
use Rattle.link_model.specs.declared.event.Event.{Event}
use Rattle.link_model.specs.declared.event.Event.TheVariants.{Ctl, Pkt, Bad}
use Rattle.link_model.specs.Output.{Heard, stype0}
use Rattle.link_port.specs.States.{prios_of, expected_of, expects}
use Rattle.link_port.specs.Ports.{PortState}

-- what a symbol does in the output half, by its buffer status, and then by its stype0 and its ackID
abbrev pub symbol_heard : PortState → Fields → Heard
symbol_heard port symbol = hears (stype0 symbol.s0) (hears_report symbol port.output) symbol.p0

-- the priorities of the packets that it acknowledges
abbrev pub acknowledged : PortState → Fields → List ℕ
acknowledged port symbol = take (symbol_heard port symbol).freed (prios_of port.output)

-- the output half has heard a symbol
abbrev pub after_hearing : PortState → Fields → PortState
after_hearing port symbol =
    record port {
      output = (symbol_heard port symbol).state;
      queued = lists_without (acknowledged port symbol) port.queued;
    }

-- what a symbol does in the input half, by its stype1 and cmd
abbrev pub obeyed : PortState → Fields → Received
obeyed port symbol = receives (symbol_arrival symbol.s1 symbol.cmd) port.input

-- what a good packet with an ackID does
abbrev pub arrived : PortState → ℕ → List ℕ → Received
arrived port ack packet =
    receives (comes_to port.tells port.received (expected_of port.input) ack packet) port.input

-- what characters do that are no packet or symbol
abbrev pub damaged : PortState → Cause → Received
damaged port cause = receives (Damaged (number_of cause)) port.input

-- the port after an event; the symbol to send; a copy of the packet that was put into the store;
-- and the packets that were acknowledged
pub record Acted : Type 0 where
  pub port : PortState
  pub reply : Option Fields
  pub held : Option (List ℕ)
  pub freed : List (List ℕ)

-- these parts together
abbrev pub acted : PortState → Option Fields → Option (List ℕ) → List (List ℕ) → Acted
acted port reply held freed = record { port = port; reply = reply; held = held; freed = freed }

-- nothing is done
abbrev pub idle : PortState → Acted
idle port = acted port None None []

-- a symbol: the output half before the input half
abbrev pub acts_symbol : PortState → Fields → Acted
acts_symbol port symbol =
    let next = after_hearing port symbol in
    acted (record next { input = (obeyed next symbol).state }) (obeyed next symbol).reply None
    (packets_of (acknowledged port symbol) port.queued)

-- a packet
abbrev pub acts_packet : PortState → ℕ → List ℕ → Acted
acts_packet port ack packet =
    let does = arrived port ack packet in
    acted (record port { input = does.state; received = stored does.held port.received packet })
    does.reply (if does.held then Some packet else None) []

-- what is neither
abbrev pub acts_bad : PortState → Cause → Acted
acts_bad port cause =
    let does = damaged port cause in
    acted (record port { input = does.state }) does.reply None []

-- an event
abbrev pub acts : PortState → Event → Acted
acts port (Ctl symbol) = acts_symbol port symbol
acts port (Pkt ack packet) = acts_packet port ack packet
acts port (Bad cause) = acts_bad port cause

-- what was done, and then more
abbrev pub joined : Acted → Acted → Acted
joined first then_more =
    acted then_more.port (option_or first.reply then_more.reply)
    (option_or first.held then_more.held) (first.freed ++ then_more.freed)

-- events, one after another
unfoldable pub acts_all : PortState → List Event → Acted
acts_all port [] = idle port
acts_all port (e ∷ es) = joined (acts port e) (acts_all (acts port e).port es)

-- whether an event is a symbol, or a packet that is taken or has no room
abbrev pub is_acted : PortState → Event → Bool
is_acted port (Ctl symbol) = true
is_acted port (Pkt ack packet) = expects port.input ack
is_acted port (Bad cause) = false

-- whether the first of the events is one
abbrev pub first_acted : PortState → List Event → Bool
first_acted port [] = false
first_acted port (e ∷ es) = is_acted port e

-- the events of a character
abbrev pub read : PortState → Char → List Event
read port c = (step port.place c).gives

-- the framer has read a character
abbrev pub after_reading : PortState → Char → PortState
after_reading port c = record port { place = (step port.place c).place }

-- what a character does
abbrev pub takes : PortState → Char → Acted
takes port c = acts_all (after_reading port c) (read port c)
