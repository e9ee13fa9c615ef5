-- The steps of the plain network, and which lists of steps are legal. None of them speaks of how
-- often a packet was sent over a link.
use Rattle.std.specs.Prelude.{◌≡◌, ◌⊎◌, ℕ, ◌+◌, false, IsTrue, List, [], ◌∷◌, ◌++◌, map, Option, Some, None}
use Rattle.rio_packets.specs.Fields.{prio_of, is_request}
use Rattle.rio_packets.specs.LinkForm.{Passes}
use Rattle.maint_packets.specs.declared.next_hop.Next.TheVariants.{Nowhere, RegisterUnit, Port}
use Rattle.maint_packets.specs.NextHops.{moved}
use Rattle.maint_packets.specs.Requests.{request_of}
use Rattle.fabric_script.specs.declared.ports.PortRef.{PortRef}
use Rattle.fabric_model.specs.Network.{Item, Network, port_of, with_lane, with_lent, with_device, peer_in, first_packet, room_in, room_out, IsEndpoint}
use Rattle.fabric_model.specs.Serving.{next_at, response_at, device_after}

-- what happens between two ports of a link: the port holds a packet that its peer sent; the port
-- frees a packet that its peer holds
pub data LinkStep : Type 0 where
  Hold : PortRef → List ℕ → LinkStep
  Free : PortRef → List ℕ → LinkStep

-- what happens at an endpoint: it takes a packet to be sent; a packet leaves the fabric there
pub data NodeStep : Type 0 where
  Take : ℕ → List ℕ → NodeStep
  Leave : ℕ → List ℕ → NodeStep

-- What a device does with a packet that one of its ports has received: a switch moves it to a port,
-- or drops it; the registers answer it with another packet.
pub data DeviceStep : Type 0 where
  Move : PortRef → PortRef → List ℕ → DeviceStep
  Drop : PortRef → List ℕ → DeviceStep
  Answer : PortRef → List ℕ → List ℕ → DeviceStep

pub data Step : Type 0 where
  Linked : LinkStep → Step
  AtNode : NodeStep → Step
  ByDevice : DeviceStep → Step

-- the packet is the first of its priority that the port has received
abbrev pub IsFirst : Network → PortRef → List ℕ → Type 0
IsFirst net p packet = first_packet (net.received p (prio_of packet)) ≡ Some packet

-- the registers of a packet's node answer it: those of an endpoint, or of a switch that sends it to
-- them
abbrev pub IsForRegisters : Network → PortRef → List ℕ → Type 0
IsForRegisters net p packet =
    IsEndpoint net p.node ⊎ (next_at net p.node packet ≡ Some RegisterUnit)

-- What a step needs. A packet is found by its priority.
abbrev pub Needs : Network → Step → Type 0
-- the packet is the first of its priority that waits at the peer, and there is room for it
Needs net (Linked (Hold q packet)) = (p : PortRef) × (peer_in net.links q ≡ Some p)
    × (first_packet (net.waiting p (prio_of packet)) ≡ Some packet)
    × IsTrue (room_in net q (prio_of packet))
-- the packet is the first that the next hop holds
Needs net (Linked (Free p packet)) = first_packet (net.lent p) ≡ Some packet
-- it is a packet in its link form, and an endpoint has room to send it
Needs net (AtNode (Take n packet)) =
    IsEndpoint net n × Passes packet × IsTrue (room_out net (port_of n) (prio_of packet))
-- it is the first of its priority that an endpoint has received, and not for the endpoint's own
-- registers
Needs net (AtNode (Leave n packet)) =
    IsEndpoint net n × IsFirst net (port_of n) packet × (is_request packet ≡ false)
-- a switch sends it to another of its ports, or to the same, where there is room to send it
Needs net (ByDevice (Move p q packet)) = (q.node ≡ p.node) × IsFirst net p packet
    × (next_at net p.node packet ≡ Some (Port q.port)) × IsTrue (room_out net q (prio_of packet))
-- a switch sends it nowhere
Needs net (ByDevice (Drop p packet)) =
    IsFirst net p packet × (next_at net p.node packet ≡ Some Nowhere)
-- it is a request for the registers, which give this packet, in its link form, where the port has
-- room to send it
Needs net (ByDevice (Answer p packet response)) = IsFirst net p packet
    × IsForRegisters net p packet × (response_at net p packet ≡ Some response) × Passes response
    × IsTrue (room_out net p (prio_of response))

-- the items of a lane without the first
abbrev pub behind_first : List Item → List Item
behind_first [] = []
behind_first (item ∷ items) = items

-- the first item, as a list
abbrev pub only_first : List Item → List Item
only_first [] = []
only_first (item ∷ items) = item ∷ []

-- the item goes from the peer's lane to the end of the port's, and a copy to the end of what the
-- peer has lent
abbrev pub after_hold : Network → PortRef → Option PortRef → ℕ → Network
after_hold net q None r = net
after_hold net q (Some p) r = record net {
  received = with_lane net.received q r (net.received q r ++ only_first (net.waiting p r));
  waiting = with_lane net.waiting p r (behind_first (net.waiting p r));
  lent = with_lent net.lent p (net.lent p ++ only_first (net.waiting p r));
}

-- the item as it moves on
abbrev pub moved_item : Item → Item
moved_item item = record item { now = moved item.now }

-- without the first item of a priority that a port has received
abbrev pub without_first : Network → PortRef → ℕ → Network
without_first net p r =
    record net { received = with_lane net.received p r (behind_first (net.received p r)) }

-- with these items at the end of what waits
abbrev pub with_waiting : Network → PortRef → ℕ → List Item → Network
with_waiting net p r items =
    record net { waiting = with_lane net.waiting p r (net.waiting p r ++ items) }

-- the item that is taken at a port
abbrev pub item_of : Network → PortRef → List ℕ → Item
item_of net p packet =
    record { number = net.given; port = p; taken = packet; now = packet }

-- it is taken there
abbrev pub with_taken : Network → PortRef → List ℕ → Network
with_taken net p packet =
    record (with_waiting net p (prio_of packet) (item_of net p packet ∷ []))
    { given = net.given + 1 }

-- the network after a step; what a step does not name stays
abbrev pub after : Network → Step → Network
after net (Linked (Hold q packet)) = after_hold net q (peer_in net.links q) (prio_of packet)
after net (Linked (Free p packet)) =
    record net { lent = with_lent net.lent p (behind_first (net.lent p)) }
after net (AtNode (Take n packet)) = with_taken net (port_of n) packet
after net (AtNode (Leave n packet)) = without_first net (port_of n) (prio_of packet)
after net (ByDevice (Move p q packet)) =
    with_waiting (without_first net p (prio_of packet)) q (prio_of packet)
    (only_first (map moved_item (net.received p (prio_of packet))))
after net (ByDevice (Drop p packet)) = without_first net p (prio_of packet)
after net (ByDevice (Answer p packet response)) =
    record (with_taken (without_first net p (prio_of packet)) p response) {
      registers = with_device net.registers p.node (device_after p.port (request_of packet));
    }

abbrev pub after_all : Network → List Step → Network
after_all net [] = net
after_all net (step ∷ steps) = after_all (after net step) steps

-- one after the other, each step has what it needs, and the last leaves this network
abbrev pub LegalFrom : Network → List Step → Network → Type 0
LegalFrom net [] end = end ≡ net
LegalFrom net (step ∷ steps) end = Needs net step × LegalFrom (after net step) steps end
