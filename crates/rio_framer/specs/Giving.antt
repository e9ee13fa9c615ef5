-- The events of one character, as a list of at most two, as a value, and as an outcome of a few
-- bytes.
use Rattle.std.specs.Prelude.{◌≡◌, ℕ, ◌⊎◌, List, [], ◌∷◌, Option, Some, None}
use Rattle.link_model.specs.Prelude.{START_OF_PACKET, END_OF_PACKET, Fields, General}
use Rattle.link_model.specs.declared.event.Event.{Event}
use Rattle.link_model.specs.declared.event.Event.TheVariants.{Ctl, Pkt, Bad}
use Rattle.link_model.specs.Events.{packet_event}
use Rattle.rio_framer.specs.declared.events.Events.{Events}
use Rattle.rio_framer.specs.declared.events.Told.{Told}
use Rattle.rio_framer.specs.declared.events.Told.TheVariants as told

-- the list of both
abbrev pub listed : Option Event → Option Fields → List Event
listed None None = []
listed None (Some symbol) = Ctl symbol ∷ []
listed (Some event) None = event ∷ []
listed (Some event) (Some symbol) = event ∷ Ctl symbol ∷ []

abbrev pub symbol_of : Event → Option Fields
symbol_of (Ctl symbol) = Some symbol
symbol_of (Pkt ack packet) = None
symbol_of (Bad cause) = None

-- at most two events, of which the second is a symbol
abbrev pub events_given : List Event → Events
events_given [] = record { first = None; second = None }
events_given (e ∷ []) = record { first = Some e; second = None }
events_given (e ∷ x ∷ es) = record { first = Some e; second = symbol_of x }

-- A second event is the start-of-packet or end-of-packet symbol that ended the packet named by the
-- first.
abbrev pub IsPaired : Option Event → Option Fields → Type 0
IsPaired first None = Unit {0}
IsPaired None (Some symbol) = ⊥
IsPaired (Some event) (Some symbol) =
    ((bytes : List ℕ) × (event ≡ packet_event bytes))
    × ((symbol.s1 ≡ START_OF_PACKET) ⊎ (symbol.s1 ≡ END_OF_PACKET))

-- the symbol that ended a packet
abbrev pub told_end : Event → Told
told_end (Ctl symbol) = told.Ends symbol
told_end (Pkt ack packet) = told.Bad General
told_end (Bad cause) = told.Bad cause

-- the outcome of events, without the packet that ended
abbrev pub told_of_events : List Event → Told
told_of_events [] = told.Nothing
told_of_events (Ctl symbol ∷ []) = told.Ctl symbol
told_of_events (Pkt ack packet ∷ []) = told.Bad General
told_of_events (Bad cause ∷ []) = told.Bad cause
told_of_events (e ∷ x ∷ es) = told_end x

-- the events of an outcome, and of the packet that ended
abbrev pub events_by : Told → Option Event → Events
events_by told.Nothing ended = record { first = None; second = None }
events_by (told.Ctl symbol) ended = record { first = Some (Ctl symbol); second = None }
events_by (told.Ends symbol) ended = record { first = ended; second = Some symbol }
events_by (told.Bad cause) ended = record { first = Some (Bad cause); second = None }
