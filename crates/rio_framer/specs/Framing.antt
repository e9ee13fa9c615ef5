-- What a framer keeps, as contracts see it.
use Rattle.std.specs.Prelude.{ℕ, List, [], ◌∷◌, Bool, true, false, Option, Some, None}
use Rattle.link_model.specs.declared.event.Event.{Event}
use Rattle.link_model.specs.declared.reading_kinds.Pending.{Pending}
use Rattle.link_model.specs.Events.{packet_event}
use Rattle.link_model.specs.Places.{Place, ReaderStep, place}
use Rattle.link_model.specs.Reading.{Text, Plain, Skipped, Within}
use Rattle.rio_framer.specs.declared.framer.FramerMode.{FramerMode}
use Rattle.rio_framer.specs.declared.framer.FramerMode.TheVariants.{Outside, Skipping, InPacket}

-- where the reader of a link stands, and the event of the packet that the last character ended, if
-- it ended one
pub record Framing : Type 0 where
  pub place : Place
  pub ended : Option Event

-- no packet has ended
abbrev pub framing_at : Place → Framing
framing_at from = record { place = from; ended = None }

-- the event of a packet that ended, which is the first of two events
abbrev pub ended_of : List Event → Option Event
ended_of [] = None
ended_of (e ∷ []) = None
ended_of (e ∷ x ∷ es) = Some e

-- after the step of a character
abbrev pub framing_after : ReaderStep → Framing
framing_after step = record { place = step.place; ended = ended_of step.gives }

-- the text that is read, where the bytes are those of the packet in progress
abbrev pub text_of : FramerMode → List ℕ → Text
text_of Outside bytes = Plain
text_of Skipping bytes = Skipped
text_of InPacket bytes = Within bytes

-- a packet is in progress
abbrev pub IsInPacket : Text → Type 0
IsInPacket Plain = ⊥
IsInPacket Skipped = ⊥
IsInPacket (Within bytes) = Unit {0}

-- by whether the bytes are those of a packet that ended
abbrev pub framing_of : FramerMode → List ℕ → Pending → Bool → Framing
framing_of mode bytes pending true =
    record { place = place (text_of mode []) pending; ended = Some (packet_event bytes) }
framing_of mode bytes pending false =
    record { place = place (text_of mode bytes) pending; ended = None }
