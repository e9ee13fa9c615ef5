-- What is kept of a port, and what it may send.
use Rattle.std.specs.Prelude.{◌≡◌, ℕ, ◌-◌, List, ◌∷◌, ◌++◌, drop, length, Option, Some, None, slice_get}
use Rattle.rio_chars.specs.declared.chars.Char.{Char}
use Rattle.link_model.specs.Places.{Place, place_after, place_start}
use Rattle.link_model.specs.Said.{said}
use Rattle.trace_reactions.specs.declared.port.PortReactions.{PortReactions}
use Rattle.trace_reactions.specs.declared.port.WrongAnswer.{WrongAnswer}
use Rattle.trace_reactions.specs.declared.reactions.Reaction.{Reaction}
use Rattle.trace_reactions.specs.InputHalves.{input_kept, InputKept, new_input, after_events}
use Rattle.rio_framer.specs.declared.events.Told.{Told}
use Rattle.rio_framer.specs.declared.events.Told.TheVariants as T
use Rattle.trace_reactions.specs.Reactions.{reaction_of, reactions_in}

-- Where the reading of what it gets stands, and where that of what it sends; and its input half.
pub record PortKept : Type 0 where
  pub hearing : Place
  pub sending : Place
  pub input : InputKept

-- a port with so many receive buffers, before the first line
abbrev pub unheard_port : ℕ → PortKept
unheard_port buffers =
    record { hearing = place_start; sending = place_start; input = new_input buffers }

-- after characters that it got
abbrev pub after_got : PortKept → List Char → PortKept
after_got port chars = record {
  hearing = place_after port.hearing chars;
  sending = port.sending;
  input = after_events port.input (said port.hearing chars);
}

-- the reactions among the symbols of characters that it sends
abbrev pub reactions_sent : PortKept → List Char → List Reaction
reactions_sent port chars = reactions_in (said port.sending chars)

-- they are the first that are due
abbrev pub AreDue : PortKept → List Char → Type 0
AreDue port chars = (left : List Reaction) × (port.input.due ≡ reactions_sent port chars ++ left)

-- after characters that it sent: their reactions are due no more
abbrev pub after_sending : PortKept → List Char → PortKept
after_sending port chars = record {
  hearing = port.hearing;
  sending = place_after port.sending chars;
  input = record port.input { due = drop (length (reactions_sent port chars)) port.input.due };
}

-- after a packet that has gone from it
abbrev pub gives : PortKept → PortKept
gives port = record port { input = record port.input { held = port.input.held - 1 } }

-- The reactions up to this one were due; in its place another was due, or none.
pub record IsWrongAnswer (port : PortKept) (chars : List Char) (wrong : WrongAnswer) : Type 0 where
  pub front : List Reaction
  pub behind : List Reaction
  pub left : List Reaction
  pub sent : reactions_sent port chars ≡ front ++ wrong.sent ∷ behind
  pub due : port.input.due ≡ front ++ left
  pub first : wrong.due ≡ slice_get left 0
  pub other : wrong.due ≡ Some wrong.sent → ⊥

-- ---- what the code keeps

abbrev pub port_kept : PortReactions → PortKept
port_kept port = record {
  hearing = port.hearing.place;
  sending = port.sending.place;
  input = input_kept port.input;
}

-- the reaction that characters told, if they told one
abbrev pub reaction_told : Told → Option Reaction
reaction_told T.Nothing = None
reaction_told (T.Ctl symbol) = reaction_of symbol
reaction_told (T.Ends symbol) = reaction_of symbol
reaction_told (T.Bad cause) = None
