-- What a run of characters does in a port, up to and with the first that completes an event.
use Rattle.std.specs.Prelude.{ℕ, Option, List, [], ◌∷◌, IsSome}
use Rattle.rio_chars.specs.declared.chars.Char.{Char}
use Rattle.link_model.specs.declared.event.Event.{Event}
use Rattle.link_model.specs.declared.event.Event.TheVariants.{Ctl, Pkt, Bad}
use Rattle.link_model.specs.Fronts.{Front, telling_front}
use Rattle.rio_framer.specs.declared.events.Told.{Told}
use Rattle.rio_framer.specs.declared.events.Told.TheVariants as told
use Rattle.link_port.specs.declared.completed.Completed.{Completed}
use Rattle.link_port.specs.declared.completed.Completed.TheVariants as completed
use Rattle.link_port.specs.Ports.{PortState}
use Rattle.link_port.specs.Steps.{Acted, acts_all}

-- the characters up to and with the first that completes an event, or all of them
abbrev pub front_of : PortState → List Char → Front
front_of port chars = telling_front port.place chars

-- the framer has read them
abbrev pub after_front : PortState → List Char → PortState
after_front port chars = record port { place = (front_of port chars).step.place }

-- what they do
abbrev pub takes_run : PortState → List Char → Acted
takes_run port chars = acts_all (after_front port chars) (front_of port chars).step.gives

-- the events that were completed, with the packet of the slot
abbrev pub completed_events : Completed → List ℕ → List Event
completed_events completed.Nothing packet = []
completed_events (completed.Symbol symbol) packet = Ctl symbol ∷ []
completed_events (completed.Packet ack symbol) packet = Pkt ack packet ∷ Ctl symbol ∷ []
completed_events (completed.NoPacket cause symbol) packet = Bad cause ∷ Ctl symbol ∷ []
completed_events (completed.Bad cause) packet = Bad cause ∷ []

-- what the slot holds after events of one character: the packet, if one was completed, or what it
-- held before
abbrev pub slot_after : List Event → List ℕ → List ℕ
slot_after [] packet = packet
slot_after (Ctl symbol ∷ events) packet = packet
slot_after (Pkt ack came ∷ events) packet = came
slot_after (Bad cause ∷ events) packet = packet

-- where a packet ended, the framer has its event
abbrev pub HasEnded : Told → Option Event → Type 0
HasEnded told.Nothing ended = Unit {0}
HasEnded (told.Ctl symbol) ended = Unit {0}
HasEnded (told.Ends symbol) ended = IsSome ended
HasEnded (told.Bad cause) ended = Unit {0}
