-- Events as heads, with the bytes of their packets behind one another.
use Rattle.std.specs.Prelude.{ℕ, ◌+◌, List, [], ◌∷◌, take, drop}
use Rattle.link_model.specs.declared.event.Event.{Event}
use Rattle.link_model.specs.declared.event.Event.TheVariants.{Ctl, Pkt}
use Rattle.link_wires.specs.declared.kept.Head.{Head}
use Rattle.link_wires.specs.declared.kept.Head.TheVariants as head

-- how many bytes the packet of an event has
abbrev pub head_size : Head → ℕ
head_size (head.Symbol symbol) = 0
head_size (head.Packet ack size) = size

-- an event, whose packet has the first of these bytes
abbrev pub event_of : Head → List ℕ → Event
event_of (head.Symbol symbol) bytes = Ctl symbol
event_of (head.Packet ack size) bytes = Pkt ack (take size bytes)

-- events, whose packets have these bytes, one after another
abbrev pub events_of : List Head → List ℕ → List Event
events_of [] bytes = []
events_of (h ∷ heads) bytes = event_of h bytes ∷ events_of heads (drop (head_size h) bytes)

-- how many bytes the packets of events have
abbrev pub size_of_all : List Head → ℕ
size_of_all [] = 0
size_of_all (h ∷ heads) = head_size h + size_of_all heads
