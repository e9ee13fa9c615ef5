-- What the events of one character do, each by itself.
use Rattle.std.specs.Prelude.{ℕ, Bool, false, Option, Some, None, option_to_list, List, [], ◌∷◌, ◌++◌, if◌then◌else◌}
use Rattle.rio_symbols.specs.Fields.{Fields}
use Rattle.link_model.specs.declared.event.Event.{Event}
use Rattle.link_model.specs.declared.event.Event.TheVariants.{Ctl, Pkt, Bad}
use Rattle.link_port.specs.Ports.{PortState}
use Rattle.link_port.specs.Steps.{Acted, idle, acts, acts_symbol, is_acted}

-- the first event, if there is one
abbrev pub acts_first : PortState → Option Event → Acted
acts_first port None = idle port
acts_first port (Some event) = acts port event

-- the symbol behind it, if there is one
abbrev pub acts_second : PortState → Option Fields → Acted
acts_second port None = idle port
acts_second port (Some symbol) = acts_symbol port symbol

-- the packet of an event, where it was accepted
abbrev pub held_of : Event → Bool → Option (List ℕ)
held_of (Ctl symbol) held = None
held_of (Pkt ack packet) held = if held then Some packet else None
held_of (Bad cause) held = None

-- that of the first event, if there is one
abbrev pub held_by_event : Option Event → Bool → Option (List ℕ)
held_by_event None held = None
held_by_event (Some event) held = held_of event held

-- whether there is a first event, and it is a symbol, or a packet that is taken or has no room
abbrev pub is_first_acted : PortState → Option Event → Bool
is_first_acted port None = false
is_first_acted port (Some event) = is_acted port event

-- the symbols that answer events, one after another
unfoldable pub replies : PortState → List Event → List Fields
replies port [] = []
replies port (e ∷ es) = option_to_list (acts port e).reply ++ replies (acts port e).port es
