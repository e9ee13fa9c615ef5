-- A turn that sends nothing leaves the port as it is, and so do all after it.
use Rattle.std.proofs.Common.{◌≡◌, ℕ, zero, suc, ◌<◌, Bool, true, false, Option, Some, None, List, [], ◌∷◌, length, slice_get, refl, ap, ◌∙◌, arith}
use Rattle.link_buffers.specs.Prelude.{list_at, highest}
use Rattle.link_buffers.proofs.PriorityLaws.{highest_below-some}
use Rattle.link_port.specs.Prelude.{PortState, Burst, no_burst, packet_burst, burst_of, standing, waiting_in, turns_to, turn_sends}
use Rattle.link_model.proofs.WindowFacts.{startable_some}
use Rattle.link_model.specs.Outstanding.{Outstanding}
use Rattle.link_model.specs.Output.{Output, Ok, RetryStopped, ErrorStopped, Failed, turns, started, startable}
use Rattle.link_wires.specs.Wires.{both_bursts, port_turned, bursts}

-- a packet that is there is sent, from a port that stands as this one
packet_sent : (at : PortState) (ack : ℕ) (packets : List (List ℕ)) → 0 < length packets
    → (packet_burst (standing at) ack (slice_get packets 0)).sent ≡ [] → ⊥
packet_sent at ack [] some none = omega arith
packet_sent at ack (p ∷ packets) some none = cc

-- a port that starts nothing sends nothing only if it does not tell
start_quiet :
    (tells : Bool) (w : Outstanding) (waiting : List (List (List ℕ))) (at : PortState)
    (first : Option ℕ)
    → ((prio : ℕ) → first ≡ Some prio → highest waiting ≡ Some prio)
    → (burst_of (started tells w first).sends (standing at) waiting).sent ≡ []
    → ((started tells w first).state ≡ Ok w)
    × (burst_of (started tells w first).sends (standing at) waiting ≡ no_burst)
start_quiet true w waiting at None is none = absurd cc
start_quiet false w waiting at None is none = (refl, refl)
start_quiet tells w waiting at (Some prio) is none =
    absurd (packet_sent at _ (list_at waiting prio)
    (highest_below-some 4 prio waiting (is prio refl)).1 none)

entry_quiet :
    (tells : Bool) (o : Output) (waiting : List (List (List ℕ))) (at : PortState)
    → (burst_of (turns tells o (highest waiting)).sends (standing at) waiting).sent ≡ []
    → ((turns tells o (highest waiting)).state ≡ o)
    × (burst_of (turns tells o (highest waiting)).sends (standing at) waiting ≡ no_burst)
entry_quiet tells (Ok w) waiting at none =
    start_quiet tells w waiting at (startable w (highest waiting))
    (λ prio. startable_some w (highest waiting) prio) none
entry_quiet tells (RetryStopped w) waiting at none = absurd cc
entry_quiet tells (ErrorStopped false w) waiting at none = absurd cc
entry_quiet tells (ErrorStopped true w) waiting at none = (refl, refl)
entry_quiet tells Failed waiting at none = (refl, refl)

pub quiet_turn : (port : PortState) → (turn_sends port).sent ≡ []
    → (turns_to port ≡ port) × (turn_sends port ≡ no_burst)
quiet_turn port none =
    let entry = entry_quiet port.tells port.output (waiting_in port) port none in
    (ap (λ (o : Output). record port { output = o }) entry.0, entry.1)

-- ---- and so are all turns after it

pub turned_quiet : (n : ℕ) (port : PortState) → turns_to port ≡ port → port_turned n port ≡ port
unfolding port_turned
turned_quiet zero port same = refl
turned_quiet (suc n) port same = ap (port_turned n) same ∙ turned_quiet n port same

pub bursts_quiet : (n : ℕ) (port : PortState) → turns_to port ≡ port → turn_sends port ≡ no_burst
    → bursts n port ≡ no_burst
unfolding bursts
bursts_quiet zero port same none = refl
bursts_quiet (suc n) port same none =
    ap (λ (b : Burst). both_bursts b (bursts n (turns_to port))) none
    ∙ ap (λ (p : PortState). both_bursts no_burst (bursts n p)) same
    ∙ ap (both_bursts no_burst) (bursts_quiet n port same none)
