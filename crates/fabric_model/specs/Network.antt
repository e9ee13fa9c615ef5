-- The plain network: first-in first-out queues of packets, with no link protocol.
use Rattle.std.specs.Prelude.{◌≡◌, ℕ, ◌+◌, ◌-◌, Bool, true, false, ◌&&◌, ◌==◌, nat_lt, List, [], ◌∷◌, ◌++◌, length, Option, Some, None, filter, slice_get, option_map, option_and_then, unwrap_or, if◌then◌else◌}
use Rattle.rio_packets.specs.Fields.{prio_of}
use Rattle.maint_registers.specs.Devices.{Registers, is_switch}
use Rattle.maint_registers.specs.Routes.{next_port}
pub use Rattle.maint_registers.specs.Changes.{with_device}
use Rattle.fabric_script.specs.declared.ports.PortRef.{PortRef}
pub use Rattle.fabric_script.specs.Known.{same_port}
pub use Rattle.fabric_script.specs.Peers.{peer_in}

-- A packet in the network: the number that it was given, the port where it was taken and what it
-- was then, and what it is now. A packet is the list of its bytes.
pub record Item : Type 0 where
  pub number : ℕ
  pub port : PortRef
  pub taken : List ℕ
  pub now : List ℕ

-- what each port has for each priority
abbrev pub Lanes : Type 0
Lanes = PortRef → ℕ → List Item

-- For each port and priority, the packets that it has received and those that wait there to be
-- sent; for each port, the packets that the next hop holds and it has not freed yet, how many
-- receive buffers it has, and whether it tells how many of them are free, which no step looks at.
-- Each node has the registers of its device, which say whether it is an endpoint or a switch. The
-- links are pairs of ports, in the order of their lines. `given` counts the numbers that were given
-- out.
pub record Network : Type 0 where
  pub received : Lanes
  pub waiting : Lanes
  pub lent : PortRef → List Item
  pub buffers : PortRef → ℕ
  pub tells : PortRef → Bool
  pub registers : List Registers
  pub links : List (PortRef × PortRef)
  pub given : ℕ

-- the network before anything is set up: 8 receive buffers at each port, and none tells
abbrev pub bare : Network
bare = record {
  received = λ p r. [];
  waiting = λ p r. [];
  lent = λ p. [];
  buffers = λ p. 8;
  tells = λ p. false;
  registers = [];
  links = [];
  given = 0;
}

-- the one port of an endpoint
abbrev pub port_of : ℕ → PortRef
port_of n = record { node = n; port = 0 }

-- the lanes, with these items for this port and priority
abbrev pub with_lane : Lanes → PortRef → ℕ → List Item → Lanes
with_lane lanes p r items q s = if same_port q p && (s == r) then items else lanes q s

-- the same for what is lent
abbrev pub with_lent : (PortRef → List Item) → PortRef → List Item → PortRef → List Item
with_lent lent p items q = if same_port q p then items else lent q

-- the link of a port, its first end first
abbrev pub link_in : List (PortRef × PortRef) → PortRef → Option (PortRef × PortRef)
link_in [] p = None
link_in (link ∷ links) p = if same_port link.0 p then Some link
    else (if same_port link.1 p then Some link else link_in links p)

-- the packet of the first item
abbrev pub first_packet : List Item → Option (List ℕ)
first_packet [] = None
first_packet (item ∷ items) = Some item.now

-- what a port has in all its lanes, a higher priority first
abbrev pub in_turn : (ℕ → List Item) → List Item
in_turn lanes = lanes 3 ++ (lanes 2 ++ (lanes 1 ++ lanes 0))

-- the packet whose turn it is: the first one of the highest priority that has one
abbrev pub next_packet : (ℕ → List Item) → Option (List ℕ)
next_packet lanes = first_packet (in_turn lanes)

-- how many packets a port has received and still holds
abbrev pub held : Network → PortRef → ℕ
held net p = length (in_turn (net.received p))

-- A port has room to receive a packet of priority r where more than 3 - r buffers are free, so that
-- no priority can fill the buffers which a higher one needs.
abbrev pub room_in : Network → PortRef → ℕ → Bool
room_in net p r = nat_lt (held net p + (3 - r)) (net.buffers p)

-- how many packets of a priority a port may have to be sent, those that are lent among them
abbrev pub places : ℕ
places = 16

-- how many packets of a priority a port has to be sent: those that wait, and those that are lent
abbrev pub to_send : Network → PortRef → ℕ → ℕ
to_send net p r =
    length (net.waiting p r) + length (filter (λ item. prio_of item.now == r) (net.lent p))

abbrev pub room_out : Network → PortRef → ℕ → Bool
room_out net p r = nat_lt (to_send net p r) places

-- whether a node is a switch, if it is one of the nodes
abbrev pub switch_at : Network → ℕ → Option Bool
switch_at net n = option_map is_switch (slice_get net.registers n)

abbrev pub IsEndpoint : Network → ℕ → Type 0
IsEndpoint net n = switch_at net n ≡ Some false

abbrev pub IsSwitch : Network → ℕ → Type 0
IsSwitch net n = switch_at net n ≡ Some true

-- the ID with which a device sends packets, of 16 bits or of 8
abbrev pub sender_id : Registers → Bool → ℕ
sender_id device large = if large then device.large_id else device.base_id

-- that of a node
abbrev pub id_of : Network → ℕ → Bool → ℕ
id_of net n large = unwrap_or
    (option_map (λ (device : Registers). sender_id device large) (slice_get net.registers n)) 0

-- the port to which a node sends packets for a destination, if it is a switch that names one
abbrev pub route_at : Network → Option ℕ → ℕ → Option ℕ
route_at net dest n =
    option_and_then
    (λ d. option_and_then (λ device. next_port device d) (slice_get net.registers n))
    dest
