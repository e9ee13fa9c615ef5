-- What a port sends in turns, or as it tells its free buffers, is no reaction.
use Rattle.answered_traces.proofs.Prelude.{◌≡◌, ℕ, zero, suc, Bool, true, false, List, [], ◌∷◌, Option, Some, None, slice_get, ◌++◌, if◌then◌else◌, refl, ap, ◌∙◌, AllByRecursion, all-append, list_at, Event, Ctl, Pkt, Bad, PortState, no_burst, symbol_burst, packet_burst, burst_of, port_turn, standing, turn_sends, turns_to, tell_sends, waiting_in, bursts, reaction_of, reactions_in, reactions_of}
use Rattle.link_model.specs.Output.{Sends}
use Rattle.link_model.specs.Symbols.{status}

-- an event says no reaction
abbrev IsSilent : Event → Type 0
IsSilent (Ctl symbol) = reaction_of symbol ≡ None
IsSilent _ = Unit {0}

abbrev AreSilent : List Event → Type 0
AreSilent events = AllByRecursion IsSilent events

silent_none : (events : List Event) → AreSilent events → reactions_in events ≡ []
silent_none [] all = refl
silent_none (Ctl symbol ∷ events) all =
    ap (λ o. reactions_of o ++ reactions_in events) all.0 ∙ silent_none events all.1
silent_none (Pkt ack packet ∷ events) all = silent_none events all.1
silent_none (Bad cause ∷ events) all = silent_none events all.1

packet_silent : (at : _) (ack : ℕ) (found : Option (List ℕ))
    → AreSilent (packet_burst at ack found).sent
packet_silent at ack None = tt
packet_silent at ack (Some packet) = (refl, (tt, (refl, tt)))

burst_silent : (sends : Sends) (at : _) (waiting : List (List (List ℕ)))
    → AreSilent (burst_of sends at waiting).sent
burst_silent (Sends.Packet ack prio) at waiting =
    packet_silent at ack (slice_get (list_at waiting prio) 0)
burst_silent Sends.Restart at waiting = (refl, tt)
burst_silent Sends.Request at waiting = (refl, tt)
burst_silent Sends.Status at waiting = (refl, tt)
burst_silent Sends.Nothing at waiting = tt

turns_silent : (n : ℕ) (port : PortState) → AreSilent (bursts n port).sent
unfolding bursts
turns_silent zero port = tt
turns_silent (suc n) port =
    all-append IsSilent (turn_sends port).sent (bursts n (turns_to port)).sent
    (burst_silent (port_turn port).sends (standing port) (waiting_in port))
    (turns_silent n (turns_to port))

-- whatever turns send
pub turns_say_none : (n : ℕ) (port : PortState) → reactions_in (bursts n port).sent ≡ []
turns_say_none n port = silent_none (bursts n port).sent (turns_silent n port)

-- and a status
pub tells_say_none : (port : PortState) → reactions_in (tell_sends port).sent ≡ []
tells_say_none port = by port.tells
  where
    by : (tells : Bool) → reactions_in (if tells
        then symbol_burst (status (standing port).expected (standing port).buffers)
        else no_burst).sent ≡ []
    by true = refl
    by false = refl
