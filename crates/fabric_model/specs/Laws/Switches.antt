-- Small lists of steps through switches: a packet's way, a route in a circle, two packets that
-- part, and lists of which laws do not hold.
use Rattle.std.specs.Prelude.{◌≡◌, ℕ, true, List, [], ◌∷◌}
use Rattle.rio_packets.specs.Fields.{prio_of}
use Rattle.maint_registers.specs.Devices.{Registers, new_endpoint, new_switch}
use Rattle.fabric_script.specs.declared.ports.PortRef.{PortRef}
use Rattle.fabric_script.specs.Ports.{port_at}
use Rattle.fabric_model.specs.Network.{Item, Network, port_of, bare}
use Rattle.fabric_model.specs.Steps.{Hold, Take, Leave, Move, Drop, Answer, Step, Linked, AtNode, ByDevice}
use Rattle.fabric_model.specs.Laws.Examples.{packet, other}

-- a switch with three ports and these entries, which sends what has none to port 1
abbrev pub switch_with : List ℕ → Registers
switch_with routes = record (new_switch 3 7) { routes = routes; default_port = 1 }

-- Endpoint 0 is linked to switch 2, and endpoint 1 to switch 3. Two links join the switches:
--
--     endpoint 0 -- 0 switch 2 1 -- 1 switch 3 0 -- endpoint 1
--                              2 -- 2
abbrev pub around : Network
around = record bare {
  registers = new_endpoint 1 true
      ∷ new_endpoint 2 true
      ∷ switch_with (255 ∷ 255 ∷ 1 ∷ 255 ∷ 255 ∷ 2 ∷ 255 ∷ 255 ∷ 255 ∷ 1 ∷ [])
      ∷ switch_with (255 ∷ 255 ∷ 0 ∷ 255 ∷ 255 ∷ 0 ∷ 255 ∷ 0 ∷ 255 ∷ 2 ∷ [])
      ∷ [];
  links = (port_of 0, port_at 2 0)
      ∷ (port_at 2 1, port_at 3 1)
      ∷ (port_at 2 2, port_at 3 2)
      ∷ (port_at 3 0, port_of 1)
      ∷ [];
}

-- a packet for destination 5, and two for destination 9, which nobody has
abbrev pub for_5 : List ℕ
for_5 = 0x00 ∷ 0x0f ∷ 0x05 ∷ 0x01 ∷ 0xca ∷ 0xfe ∷ 0x17 ∷ 0xd2 ∷ []

abbrev pub for_9 : List ℕ
for_9 = 0x00 ∷ 0x0f ∷ 0x09 ∷ 0x01 ∷ 0xca ∷ 0xfe ∷ 0x58 ∷ 0xe0 ∷ []

abbrev pub later_for_9 : List ℕ
later_for_9 = 0x00 ∷ 0x0f ∷ 0x09 ∷ 0x01 ∷ 0xca ∷ 0xff ∷ 0x48 ∷ 0xc1 ∷ []

-- a packet goes through both switches, and leaves
abbrev pub through : List Step
through =
    AtNode (Take 0 packet)
    ∷ Linked (Hold (port_at 2 0) packet)
    ∷ ByDevice (Move (port_at 2 0) (port_at 2 1) packet)
    ∷ Linked (Hold (port_at 3 1) packet)
    ∷ ByDevice (Move (port_at 3 1) (port_at 3 0) packet)
    ∷ Linked (Hold (port_of 1) packet)
    ∷ AtNode (Leave 1 packet)
    ∷ []

-- The first of two packets goes to the other switch and back, and comes to a list where the second
-- waits.
abbrev pub circle : List Step
circle =
    AtNode (Take 0 for_9)
    ∷ Linked (Hold (port_at 2 0) for_9)
    ∷ ByDevice (Move (port_at 2 0) (port_at 2 1) for_9)
    ∷ Linked (Hold (port_at 3 1) for_9)
    ∷ ByDevice (Move (port_at 3 1) (port_at 3 2) for_9)
    ∷ AtNode (Take 0 later_for_9)
    ∷ Linked (Hold (port_at 2 0) later_for_9)
    ∷ ByDevice (Move (port_at 2 0) (port_at 2 1) later_for_9)
    ∷ Linked (Hold (port_at 2 2) for_9)
    ∷ ByDevice (Move (port_at 2 2) (port_at 2 1) for_9)
    ∷ []

-- Two packets of one port and priority go by different links, as the table names, and the second
-- leaves while the first waits.
abbrev pub parting : List Step
parting =
    AtNode (Take 0 packet)
    ∷ AtNode (Take 0 for_5)
    ∷ Linked (Hold (port_at 2 0) packet)
    ∷ Linked (Hold (port_at 2 0) for_5)
    ∷ ByDevice (Move (port_at 2 0) (port_at 2 1) packet)
    ∷ ByDevice (Move (port_at 2 0) (port_at 2 2) for_5)
    ∷ Linked (Hold (port_at 3 2) for_5)
    ∷ ByDevice (Move (port_at 3 2) (port_at 3 0) for_5)
    ∷ Linked (Hold (port_of 1) for_5)
    ∷ AtNode (Leave 1 for_5)
    ∷ []

-- the items were taken at one port with one priority, whatever else their packets say
pub record SamePriority (x y : Item) : Type 0 where
  pub port : x.port ≡ y.port
  pub priority : prio_of x.taken ≡ prio_of y.taken

-- The second packet of a flow moves to another port than the table names, and leaves first.
abbrev pub moved_elsewhere : List Step
moved_elsewhere =
    AtNode (Take 0 packet)
    ∷ AtNode (Take 0 other)
    ∷ Linked (Hold (port_at 2 0) packet)
    ∷ Linked (Hold (port_at 2 0) other)
    ∷ ByDevice (Move (port_at 2 0) (port_at 2 1) packet)
    ∷ ByDevice (Move (port_at 2 0) (port_at 2 2) other)
    ∷ Linked (Hold (port_at 3 2) other)
    ∷ ByDevice (Move (port_at 3 2) (port_at 3 0) other)
    ∷ Linked (Hold (port_of 1) other)
    ∷ AtNode (Leave 1 other)
    ∷ []

-- a packet is dropped although a port is named
abbrev pub dropped_on_its_way : List Step
dropped_on_its_way =
    AtNode (Take 0 packet)
    ∷ Linked (Hold (port_at 2 0) packet)
    ∷ ByDevice (Drop (port_at 2 0) packet)
    ∷ []

-- ---- registers and hop counts

-- two packets for destination 7, for which the first switch has no entry
abbrev pub for_7 : List ℕ
for_7 = 0x00 ∷ 0x0f ∷ 0x07 ∷ 0x01 ∷ 0xca ∷ 0xfe ∷ 0xfa ∷ 0xba ∷ []

abbrev pub later_for_7 : List ℕ
later_for_7 = 0x00 ∷ 0x0f ∷ 0x07 ∷ 0x01 ∷ 0xca ∷ 0xff ∷ 0xea ∷ 0x9b ∷ []

-- a write of 2 to the default port, for the first switch that it comes to, and the response
abbrev pub request : List ℕ
request =
    0x00 ∷ 0x08 ∷ 0x02 ∷ 0x01 ∷ 0x18 ∷ 0x00 ∷ 0x00 ∷ 0x00 ∷ 0x00 ∷ 0x78
    ∷ 0x00 ∷ 0x00 ∷ 0x00 ∷ 0x02 ∷ 0x00 ∷ 0x00 ∷ 0x00 ∷ 0x00 ∷ 0xc7 ∷ 0x15 ∷ []

abbrev pub response : List ℕ
response =
    0x00 ∷ 0x48 ∷ 0x01 ∷ 0x02 ∷ 0x30 ∷ 0x00 ∷ 0xff ∷ 0x00 ∷ 0x00 ∷ 0x00
    ∷ 0xd4 ∷ 0x00 ∷ []

-- The first switch sends what has no entry to port 1, until its registers answer the write. So the
-- second packet of a flow goes by the other link, and leaves while the first waits.
abbrev pub changing : List Step
changing =
    AtNode (Take 0 for_7)
    ∷ Linked (Hold (port_at 2 0) for_7)
    ∷ ByDevice (Move (port_at 2 0) (port_at 2 1) for_7)
    ∷ AtNode (Take 0 request)
    ∷ Linked (Hold (port_at 2 0) request)
    ∷ ByDevice (Answer (port_at 2 0) request response)
    ∷ AtNode (Take 0 later_for_7)
    ∷ Linked (Hold (port_at 2 0) later_for_7)
    ∷ ByDevice (Move (port_at 2 0) (port_at 2 2) later_for_7)
    ∷ Linked (Hold (port_at 3 2) later_for_7)
    ∷ ByDevice (Move (port_at 3 2) (port_at 3 0) later_for_7)
    ∷ Linked (Hold (port_of 1) later_for_7)
    ∷ AtNode (Leave 1 later_for_7)
    ∷ []

-- maintenance responses that differ in their hop counts
abbrev pub with_hop_0 : List ℕ
with_hop_0 =
    0x00 ∷ 0x08 ∷ 0x02 ∷ 0x01 ∷ 0x30 ∷ 0x00 ∷ 0x00 ∷ 0x00 ∷ 0x00 ∷ 0x00
    ∷ 0xd0 ∷ 0x8d ∷ []

abbrev pub with_hop_5 : List ℕ
with_hop_5 =
    0x00 ∷ 0x08 ∷ 0x02 ∷ 0x01 ∷ 0x30 ∷ 0x00 ∷ 0x05 ∷ 0x00 ∷ 0x00 ∷ 0x00
    ∷ 0x6c ∷ 0xc8 ∷ []

abbrev pub with_hop_4 : List ℕ
with_hop_4 =
    0x00 ∷ 0x08 ∷ 0x02 ∷ 0x01 ∷ 0x30 ∷ 0x00 ∷ 0x04 ∷ 0x00 ∷ 0x00 ∷ 0x00
    ∷ 0x1a ∷ 0x7c ∷ []

abbrev pub with_hop_3 : List ℕ
with_hop_3 =
    0x00 ∷ 0x08 ∷ 0x02 ∷ 0x01 ∷ 0x30 ∷ 0x00 ∷ 0x03 ∷ 0x00 ∷ 0x00 ∷ 0x00
    ∷ 0x4b ∷ 0x51 ∷ []

-- The first packet is dropped at the end of its hops. The second has hops left, and leaves.
abbrev pub hopping : List Step
hopping =
    AtNode (Take 0 with_hop_0)
    ∷ AtNode (Take 0 with_hop_5)
    ∷ Linked (Hold (port_at 2 0) with_hop_0)
    ∷ ByDevice (Drop (port_at 2 0) with_hop_0)
    ∷ Linked (Hold (port_at 2 0) with_hop_5)
    ∷ ByDevice (Move (port_at 2 0) (port_at 2 1) with_hop_5)
    ∷ Linked (Hold (port_at 3 1) with_hop_4)
    ∷ ByDevice (Move (port_at 3 1) (port_at 3 0) with_hop_4)
    ∷ Linked (Hold (port_of 1) with_hop_3)
    ∷ AtNode (Leave 1 with_hop_3)
    ∷ []

-- a packet with IDs of 16 bits, whose numbers are those of the first packet
abbrev pub large : List ℕ
large = 0x00 ∷ 0x1f ∷ 0x00 ∷ 0x02 ∷ 0x00 ∷ 0x01 ∷ 0xca ∷ 0xfe ∷ 0x08 ∷ 0x51 ∷ 0x00 ∷ 0x00 ∷ []

-- it goes the way of the first packet, behind it
abbrev pub of_both_sizes : List Step
of_both_sizes =
    AtNode (Take 0 packet)
    ∷ AtNode (Take 0 large)
    ∷ Linked (Hold (port_at 2 0) packet)
    ∷ Linked (Hold (port_at 2 0) large)
    ∷ ByDevice (Move (port_at 2 0) (port_at 2 1) packet)
    ∷ ByDevice (Move (port_at 2 0) (port_at 2 1) large)
    ∷ Linked (Hold (port_at 3 1) packet)
    ∷ Linked (Hold (port_at 3 1) large)
    ∷ ByDevice (Move (port_at 3 1) (port_at 3 0) packet)
    ∷ ByDevice (Move (port_at 3 1) (port_at 3 0) large)
    ∷ Linked (Hold (port_of 1) packet)
    ∷ Linked (Hold (port_of 1) large)
    ∷ AtNode (Leave 1 packet)
    ∷ AtNode (Leave 1 large)
    ∷ []

-- the item of a number that was taken at the first endpoint as one packet, and is now another
abbrev pub taken_as : ℕ → List ℕ → List ℕ → Item
taken_as number packet now =
    record { number = number; port = port_of 0; taken = packet; now = now }
