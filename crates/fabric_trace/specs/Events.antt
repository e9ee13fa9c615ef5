-- What an event of a script names, and where that is in a network.
use Rattle.std.specs.Prelude.{◌≡◌, ℕ, Bool, true, false, ◌%◌, ◌^◌, ◌<◌, ◌≤◌, List, [], ◌∷◌, ◌++◌, length, All, get_or, IsSome, ⊤}
use Rattle.rio_packets.specs.Making.{most_rest}
use Rattle.fabric_script.specs.declared.ports.PortRef.{PortRef}
use Rattle.fabric_script.specs.declared.lines.Line.{Line}
use Rattle.fabric_script.specs.declared.lines.Line.TheVariants.{Endpoint, Switch, Link, Buffers, Send, Read, Write, Pump, Deliver, Alter, Insert, Erase, Timeout, Settle, Move, Collect, Run, Send16, Read16, Write16, Credits}
use Rattle.fabric_script.specs.declared.lines.Numbered.{Numbered}
use Rattle.fabric_script.specs.LineTexts.{AreNamed}
use Rattle.fabric_model.specs.Network.{Network, IsEndpoint, IsSwitch, peer_in}

-- ---- nodes and their ports

-- how many ports each node has, in the order of their lines, with one more line
abbrev pub counts_after : List ℕ → Line → List ℕ
counts_after counts (Endpoint name id) = counts ++ 1 ∷ []
counts_after counts (Switch name ports) = counts ++ ports ∷ []
counts_after counts _ = counts

abbrev pub counts_after_all : List ℕ → List Numbered → List ℕ
counts_after_all counts [] = counts
counts_after_all counts (line ∷ lines) = counts_after_all (counts_after counts line.line) lines

-- how many ports each node of a script has
abbrev pub port_counts : List Numbered → List ℕ
port_counts lines = counts_after_all [] lines

-- a node has this port
abbrev pub IsNodePort : List ℕ → PortRef → Type 0
IsNodePort counts p = p.port < get_or counts p.node 0

-- the ports that a line names are there
abbrev pub ArePorts : List ℕ → Line → Type 0
ArePorts counts (Link a b) = IsNodePort counts a × IsNodePort counts b
ArePorts counts (Buffers port n) = IsNodePort counts port
ArePorts counts (Credits port) = IsNodePort counts port
ArePorts counts (Pump port n) = IsNodePort counts port
ArePorts counts (Deliver port n) = IsNodePort counts port
ArePorts counts (Alter port place ch) = IsNodePort counts port
ArePorts counts (Insert port place ch) = IsNodePort counts port
ArePorts counts (Erase port place n) = IsNodePort counts port
ArePorts counts (Timeout port) = IsNodePort counts port
ArePorts counts (Settle port) = IsNodePort counts port
ArePorts counts _ = ⊤

-- ---- events

-- so many bytes may follow the source ID of a packet of this format type and size of IDs
pub record IsDataLength (large : Bool) (ftype count : ℕ) : Type 0 where
  pub even : count % 2 ≡ 0
  pub most : count ≤ most_rest large
  pub maintenance : ftype ≡ 8 → (6 ≤ count) × (count ≤ 70) × (count % 8 ≡ 6)

-- The numbers of an event are of their ranges, and its data has a length that a packet may have.
abbrev pub IsInRange : Line → Type 0
IsInRange (Send node prio ftype dest hex) =
    (prio < 4) × (ftype < 16) × IsDataLength false ftype (length hex)
IsInRange (Read node prio dest hop tid offset) = (prio < 4) × (offset < 16 ^ 6)
IsInRange (Write node prio dest hop tid offset value) =
    (prio < 4) × (offset < 16 ^ 6) × (value < 16 ^ 8)
IsInRange (Send16 node prio ftype dest hex) =
    (prio < 4) × (ftype < 16) × IsDataLength true ftype (length hex)
IsInRange (Read16 node prio dest hop tid offset) = (prio < 4) × (offset < 16 ^ 6)
IsInRange (Write16 node prio dest hop tid offset value) =
    (prio < 4) × (offset < 16 ^ 6) × (value < 16 ^ 8)
IsInRange (Pump port n) = (1 ≤ n) × (n ≤ 100000)
IsInRange (Deliver port n) = (1 ≤ n) × (n ≤ 100000)
IsInRange (Alter port place ch) = place ≤ 100000
IsInRange (Insert port place ch) = place ≤ 100000
IsInRange (Erase port place n) = (place ≤ 100000) × (1 ≤ n) × (n ≤ 100000)
IsInRange (Run n) = (1 ≤ n) × (n ≤ 100000)
IsInRange _ = ⊤

-- device IDs of a size are below this
abbrev pub id_limit : Bool → ℕ
id_limit false = 0x100
id_limit true = 0x10000

-- the numbers and the data of a packet to be sent fit its bytes
abbrev pub FitsSend : Bool → ℕ → ℕ → ℕ → List ℕ → Type 0
FitsSend large prio ftype dest hex = (prio < 4) × (ftype < 16) × (dest < id_limit large)
    × All (λ b. b < 256) hex × IsDataLength large ftype (length hex)

-- the numbers of a request fit its bytes
abbrev pub FitsRequest : Bool → ℕ → ℕ → ℕ → ℕ → ℕ → Type 0
FitsRequest large prio dest hop tid offset =
    (prio < 4) × (dest < id_limit large) × (hop < 256) × (tid < 256) × (offset < 16 ^ 6)

-- What a line that has a packet sent says fits the bytes of the packet.
abbrev pub FitsPacket : Line → Type 0
FitsPacket (Send node prio ftype dest hex) = FitsSend false prio ftype dest hex
FitsPacket (Read node prio dest hop tid offset) = FitsRequest false prio dest hop tid offset
FitsPacket (Write node prio dest hop tid offset value) =
    FitsRequest false prio dest hop tid offset × (value < 16 ^ 8)
FitsPacket (Send16 node prio ftype dest hex) = FitsSend true prio ftype dest hex
FitsPacket (Read16 node prio dest hop tid offset) = FitsRequest true prio dest hop tid offset
FitsPacket (Write16 node prio dest hop tid offset value) =
    FitsRequest true prio dest hop tid offset × (value < 16 ^ 8)
FitsPacket _ = ⊤

-- a port is one end of a link
abbrev pub HasLink : Network → PortRef → Type 0
HasLink net port = IsSome (peer_in net.links port)

-- what an event names is there: its node is an endpoint, or a switch, or its port has a link
abbrev pub IsThere : Network → Line → Type 0
IsThere net (Send node prio ftype dest hex) = IsEndpoint net node
IsThere net (Read node prio dest hop tid offset) = IsEndpoint net node
IsThere net (Write node prio dest hop tid offset value) = IsEndpoint net node
IsThere net (Send16 node prio ftype dest hex) = IsEndpoint net node
IsThere net (Read16 node prio dest hop tid offset) = IsEndpoint net node
IsThere net (Write16 node prio dest hop tid offset value) = IsEndpoint net node
IsThere net (Move node) = IsSwitch net node
IsThere net (Collect node) = IsEndpoint net node
IsThere net (Pump port n) = HasLink net port
IsThere net (Deliver port n) = HasLink net port
IsThere net (Alter port place ch) = HasLink net port
IsThere net (Insert port place ch) = HasLink net port
IsThere net (Erase port place n) = HasLink net port
IsThere net (Timeout port) = HasLink net port
IsThere net (Settle port) = HasLink net port
IsThere net _ = ⊤

-- An event may happen in a network: its nodes have names, it is in range, and what it names is
-- there.
pub record MayHappen (names : List (List ℕ)) (net : Network) (line : Line) : Type 0 where
  pub named : AreNamed names line
  pub range : IsInRange line
  pub there : IsThere net line
