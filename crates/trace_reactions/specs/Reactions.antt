-- What a reaction is, and which reactions are among events.
use Rattle.std.specs.Prelude.{ℕ, ◌==◌, List, [], ◌∷◌, ◌++◌, Option, Some, None, option_map, if◌then◌else◌}
use Rattle.rio_symbols.specs.declared.stype0.TheConstants.{PACKET_ACCEPTED, PACKET_RETRY, PACKET_NOT_ACCEPTED, LINK_RESPONSE}
use Rattle.rio_symbols.specs.Fields.{Fields}
use Rattle.link_model.specs.declared.event.Event.{Event}
use Rattle.link_model.specs.declared.event.Event.TheVariants.{Ctl, Pkt, Bad}
use Rattle.trace_reactions.specs.declared.reactions.Reaction.{Reaction}
use Rattle.trace_reactions.specs.declared.reactions.ReactionKind.{ReactionKind}
use Rattle.trace_reactions.specs.declared.reactions.ReactionKind.TheVariants as K

-- what a symbol with this stype0 answers, if it is an answer of the input half
abbrev pub kind_of : ℕ → Option ReactionKind
kind_of s0 = if s0 == PACKET_ACCEPTED then Some K.Accepted
    else (if s0 == PACKET_RETRY then Some K.Retry
    else (if s0 == PACKET_NOT_ACCEPTED then Some K.NotAccepted
    else (if s0 == LINK_RESPONSE then Some K.Response else None)))

-- The reaction of a symbol: its stype0 and its ackID. Its other parameter is not looked at.
abbrev pub reaction_of : Fields → Option Reaction
reaction_of symbol =
    option_map (λ kind. record { kind = kind; ack = symbol.p0 }) (kind_of symbol.s0)

-- as a list of one, or of none
abbrev pub reactions_of : Option Reaction → List Reaction
reactions_of None = []
reactions_of (Some reaction) = reaction ∷ []

-- the reaction that a reply is, if there is one
abbrev pub reply_due : Option Fields → List Reaction
reply_due None = []
reply_due (Some symbol) = reactions_of (reaction_of symbol)

-- the reactions among events, in order
abbrev pub reactions_in : List Event → List Reaction
reactions_in [] = []
reactions_in (Ctl symbol ∷ events) = reactions_of (reaction_of symbol) ++ reactions_in events
reactions_in (Pkt ack packet ∷ events) = reactions_in events
reactions_in (Bad cause ∷ events) = reactions_in events
