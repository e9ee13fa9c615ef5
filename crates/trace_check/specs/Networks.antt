-- The plain network as it is kept, table by table.
use Rattle.std.specs.Prelude.{◌≡◌, ◌↔◌, ℕ, ◌<◌, Bool, IsTrue, List, ◌++◌, length, Some}
use Rattle.rio_packets.specs.Fields.{prio_of}
use Rattle.rio_packets.specs.LinkForm.{Passes}
use Rattle.maint_packets.specs.Requests.{request_of}
use Rattle.fabric_script.specs.declared.ports.PortRef.{PortRef}
use Rattle.fabric_model.specs.Network.{first_packet, Item, Network, peer_in, with_device, with_lane, with_lent}
use Rattle.fabric_model.specs.Serving.{device_after}
use Rattle.fabric_model.specs.Steps.{after, Answer, AtNode, behind_first, ByDevice, Drop, Free, Hold, Leave, Linked, Move, Needs, Step, Take}
use Rattle.fabric_trace.specs.Views.{lists_in, packets_in}
use Rattle.trace_check.specs.declared.links.Links.{Links}
use Rattle.trace_check.specs.declared.network.Network.{Network as Kept}
use Rattle.trace_check.specs.Tables.{IsIn, IsTable}

-- what is kept is this network, of so many nodes
pub record IsNetwork (nodes : ℕ) (net : Network) (kept : Kept) : Type 0 where
  pub count : length net.registers ≡ nodes
  pub registers : kept.registers.items ≡ net.registers
  pub buffers : IsTable nodes (λ p n. n ≡ net.buffers p) kept.buffers.items
  pub received : IsTable nodes (λ p lanes. lanes ≡ lists_in (net.received p)) kept.received.items
  pub waiting : IsTable nodes (λ p lanes. lanes ≡ lists_in (net.waiting p)) kept.waiting.items
  pub lent : IsTable nodes (λ p lent. lent.items ≡ packets_in (net.lent p)) kept.lent.items

-- the packet is the first of its priority that waits at the port
abbrev pub WaitsFirst : Network → PortRef → List ℕ → Type 0
WaitsFirst net p packet = first_packet (net.waiting p (prio_of packet)) ≡ Some packet

-- ---- the parts of a hold

abbrev pub without_waiting : Network → PortRef → ℕ → Network
without_waiting net p r =
    record net { waiting = with_lane net.waiting p r (behind_first (net.waiting p r)) }

abbrev pub with_lending : Network → PortRef → List Item → Network
with_lending net p items = record net { lent = with_lent net.lent p (net.lent p ++ items) }

abbrev pub with_received : Network → PortRef → ℕ → List Item → Network
with_received net q r items =
    record net { received = with_lane net.received q r (net.received q r ++ items) }

-- ---- the part of an answer

-- the registers of the port's node have answered the packet, if it is a request
abbrev pub with_answered : Network → PortRef → List ℕ → Network
with_answered net p packet = record net {
  registers = with_device net.registers p.node (device_after p.port (request_of packet));
}

-- ---- steps

-- the step's ports and nodes are of so many nodes, and what an endpoint takes is in its link form
abbrev pub IsStepOf : ℕ → Step → Type 0
IsStepOf nodes (Linked (Hold q packet)) = IsIn nodes q
IsStepOf nodes (Linked (Free p packet)) = IsIn nodes p
IsStepOf nodes (AtNode (Take n packet)) = (n < nodes) × Passes packet
IsStepOf nodes (AtNode (Leave n packet)) = n < nodes
IsStepOf nodes (ByDevice (Move p q packet)) = IsIn nodes p × IsIn nodes q
IsStepOf nodes (ByDevice (Drop p packet)) = IsIn nodes p
IsStepOf nodes (ByDevice (Answer p packet response)) = IsIn nodes p

-- whether the step is made is whether the network has what it needs, and then it is made
abbrev pub MakesIt : ℕ → Network → Step → Kept → Bool → Type 0
MakesIt nodes net step kept made = (IsTrue made ↔ Needs net step)
    × (IsTrue made → IsNetwork nodes (after net step) kept)

-- the other ends of the links of the ports, which are ports of these nodes
pub record AreKeptLinks (nodes : ℕ) (links : List (PortRef × PortRef)) (kept : Links) : Type 0 where
  pub peers : IsTable nodes (λ p peer. peer ≡ peer_in links p) kept.peers.items
  pub within : (p q : PortRef) → peer_in links q ≡ Some p → IsIn nodes p
