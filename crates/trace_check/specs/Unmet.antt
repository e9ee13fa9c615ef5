-- What a step needs and the plain network does not have: the first need that is not met.
use Rattle.std.specs.Prelude.{◌≡◌, ◌≢◌, ℕ, ◌-◌, ◌<◌, true, false, List, Option, Some, option_and_then}
use Rattle.rio_packets.specs.Fields.{is_request, prio_of}
use Rattle.rio_packets.specs.LinkForm.{Passes}
use Rattle.maint_packets.specs.declared.next_hop.Next.TheVariants.{Nowhere, Port}
use Rattle.fabric_script.specs.declared.ports.PortRef.{PortRef}
use Rattle.fabric_model.specs.Network.{first_packet, held, IsEndpoint, Network, peer_in, port_of, room_out}
use Rattle.fabric_model.specs.Serving.{next_at, response_at}
use Rattle.fabric_model.specs.Steps.{Answer, AtNode, ByDevice, Drop, Free, Hold, IsForRegisters, Leave, Linked, Move, Needs, Step, Take}
use Rattle.trace_check.specs.declared.unmet.Unmet.{Unmet}
use Rattle.trace_check.specs.declared.unmet.Unmet.TheVariants as U

-- the first packet of a priority that waits at the peer of a port
abbrev pub first_at_peer : Network → PortRef → ℕ → Option (List ℕ)
first_at_peer net q prio =
    option_and_then (λ p. first_packet (net.waiting p prio)) (peer_in net.links q)

-- this is the first packet, or there is none, and the packet is not it
abbrev pub IsAnother : Option (List ℕ) → List ℕ → Option (List ℕ) → Type 0
IsAnother first packet told = (told ≡ first) × (first ≢ Some packet)

-- So many of so many receive buffers are free, and a packet of the priority needs more: one, and
-- one for each higher priority.
pub record AreTooFew (net : Network) (q : PortRef) (prio free all needed : ℕ) : Type 0 where
  pub free_is : free ≡ net.buffers q - held net q
  pub all_is : all ≡ net.buffers q
  pub needed_is : needed ≡ 4 - prio
  pub few : free < needed

-- What a part of several steps needs and does not have: the buffers for a packet of this priority;
-- the packet as the first that the port holds; and a place to send it from.
abbrev pub IsFew : Network → PortRef → ℕ → Unmet → Type 0
IsFew net q prio (U.Buffers free all told needed) =
    (told ≡ prio) × AreTooFew net q prio free all needed
IsFew net q prio unmet = ⊥

abbrev pub IsBehind : Network → PortRef → List ℕ → Unmet → Type 0
IsBehind net p packet (U.Held prio first) = (prio ≡ prio_of packet)
    × IsAnother (first_packet (net.received p (prio_of packet))) packet first
IsBehind net p packet unmet = ⊥

abbrev pub IsFull : Network → PortRef → List ℕ → Unmet → Type 0
IsFull net p packet (U.Place prio) =
    (prio ≡ prio_of packet) × (room_out net p (prio_of packet) ≡ false)
IsFull net p packet unmet = ⊥

-- The step needs this and does not have it: a row for each kind of step and need.
abbrev pub IsUnmetNeed : Network → Step → Unmet → Type 0
IsUnmetNeed net (Linked (Hold q packet)) (U.Waiting prio first) = (prio ≡ prio_of packet)
    × IsAnother (first_at_peer net q (prio_of packet)) packet first
IsUnmetNeed net (Linked (Hold q packet)) unmet = IsFew net q (prio_of packet) unmet
IsUnmetNeed net (Linked (Free p packet)) (U.Lent first) =
    IsAnother (first_packet (net.lent p)) packet first
IsUnmetNeed net (AtNode (Take n packet)) U.Endpoint = IsEndpoint net n → ⊥
IsUnmetNeed net (AtNode (Take n packet)) unmet = IsFull net (port_of n) packet unmet
IsUnmetNeed net (AtNode (Leave n packet)) U.Endpoint = IsEndpoint net n → ⊥
IsUnmetNeed net (AtNode (Leave n packet)) U.NoRequest = is_request packet ≡ true
IsUnmetNeed net (AtNode (Leave n packet)) unmet = IsBehind net (port_of n) packet unmet
IsUnmetNeed net (ByDevice (Move p q packet)) (U.Way way) = (way ≡ next_at net p.node packet)
    × ((q.node ≡ p.node) × (way ≡ Some (Port q.port)) → ⊥)
IsUnmetNeed net (ByDevice (Move p q packet)) (U.Place prio) = IsFull net q packet (U.Place prio)
IsUnmetNeed net (ByDevice (Move p q packet)) unmet = IsBehind net p packet unmet
IsUnmetNeed net (ByDevice (Drop p packet)) (U.Way way) =
    (way ≡ next_at net p.node packet) × (way ≢ Some Nowhere)
IsUnmetNeed net (ByDevice (Drop p packet)) unmet = IsBehind net p packet unmet
IsUnmetNeed net (ByDevice (Answer p packet response)) (U.Way way) =
    (way ≡ next_at net p.node packet) × (IsForRegisters net p packet → ⊥)
IsUnmetNeed net (ByDevice (Answer p packet response)) (U.Place prio) =
    IsFull net p response (U.Place prio)
IsUnmetNeed net (ByDevice (Answer p packet response)) U.Request = is_request packet ≡ false
IsUnmetNeed net (ByDevice (Answer p packet response)) U.Response =
    (Needs net (ByDevice (Answer p packet response)) → ⊥)
    → (response_at net p packet ≡ Some response) × Passes response → ⊥
IsUnmetNeed net (ByDevice (Answer p packet response)) unmet = IsBehind net p packet unmet
IsUnmetNeed net step unmet = ⊥
