-- Small fabrics and their maps, right ones and wrong ones.
use Rattle.std.specs.Prelude.{◌≡◌, ℕ, ◌==◌, ◌||◌, List, [], ◌∷◌, Some, None, if◌then◌else◌}
use Rattle.fabric_map.specs.declared.map.Kind.TheVariants.{Endpoint, Switch}
use Rattle.fabric_map.specs.declared.map.Device.{Device}
use Rattle.fabric_map.specs.declared.map.Entry.{Entry}
use Rattle.fabric_script.specs.Peers.{peer_in}
use Rattle.fabric_script.specs.Ports.{port_at}
use Rattle.fabric_map.specs.Topology.{Topology}
use Rattle.fabric_map.specs.Routes.{AllRegisters}
use Rattle.fabric_map.specs.Numbered.{IsNumbered}

-- The host 0, the endpoints 1 to 3, and a ring of the switches 4, 5 and 6, which have 4, 3 and 3
-- ports. The host is at switch 4, and each switch has one of the other endpoints. The endpoint 7
-- has no link.
abbrev pub ring : Topology
ring = record {
  nodes = 8;
  switch_ports = λ node.
      if node == 4 then Some 4 else (if (node == 5) || (node == 6) then Some 3 else None);
  peer = peer_in
      ((port_at 0 0, port_at 4 0)
      ∷ (port_at 4 1, port_at 5 0)
      ∷ (port_at 5 1, port_at 6 0)
      ∷ (port_at 6 1, port_at 4 2)
      ∷ (port_at 1 0, port_at 4 3)
      ∷ (port_at 2 0, port_at 5 2)
      ∷ (port_at 3 0, port_at 6 2)
      ∷ []);
  host = 0;
}

abbrev pub example_endpoint : ℕ → ℕ → List ℕ → Device
example_endpoint tag id path = record { tag = tag; kind = Endpoint id; path = path }

abbrev pub switch : ℕ → ℕ → ℕ → List ℕ → Device
switch tag ports entry path = record { tag = tag; kind = Switch ports entry; path = path }

-- the devices of the ring, whose last three endpoints have these IDs
abbrev pub ring_with : ℕ → ℕ → ℕ → List Device
ring_with first second third =
    example_endpoint 1 5 []
    ∷ switch 2 4 0 (0 ∷ [])
    ∷ switch 3 3 0 (0 ∷ 1 ∷ [])
    ∷ switch 4 3 0 (0 ∷ 1 ∷ 1 ∷ [])
    ∷ example_endpoint 5 first (0 ∷ 1 ∷ 1 ∷ 2 ∷ [])
    ∷ example_endpoint 6 second (0 ∷ 1 ∷ 2 ∷ [])
    ∷ example_endpoint 7 third (0 ∷ 3 ∷ [])
    ∷ []

abbrev pub ring_devices : List Device
ring_devices = ring_with 0 1 2

abbrev pub entry : ℕ → ℕ → ℕ → Entry
entry tag id port = record { tag = tag; id = id; port = port }

abbrev pub ring_entries : List Entry
ring_entries =
    entry 2 0 1
    ∷ entry 2 1 1
    ∷ entry 2 2 3
    ∷ entry 2 5 0
    ∷ entry 3 0 1
    ∷ entry 3 1 2
    ∷ entry 3 2 0
    ∷ entry 3 5 0
    ∷ entry 4 0 2
    ∷ entry 4 1 0
    ∷ entry 4 2 0
    ∷ entry 4 5 0
    ∷ []

-- the ring is numbered by the host, which has the ID 5
abbrev pub IsRing : AllRegisters → AllRegisters → Type 0
IsRing before after =
    ((before 0).base_id ≡ 5) × IsNumbered ring ring_devices ring_entries before after

-- ID 0 is skipped
abbrev pub skipped : List Device
skipped = ring_with 1 2 3

-- The host 0, and the switches 1 and 2, which two links join.
abbrev pub twice_linked : Topology
twice_linked = record {
  nodes = 3;
  switch_ports = λ node. if node == 1 then Some 3 else (if node == 2 then Some 2 else None);
  peer = peer_in
      ((port_at 0 0, port_at 1 0)
      ∷ (port_at 1 1, port_at 2 0)
      ∷ (port_at 1 2, port_at 2 1)
      ∷ []);
  host = 0;
}

-- the second switch is numbered by both ways
abbrev pub numbered_twice : List (List ℕ)
numbered_twice = [] ∷ (0 ∷ []) ∷ (0 ∷ 1 ∷ []) ∷ (0 ∷ 2 ∷ []) ∷ []

-- ports are taken from the highest down
abbrev pub from_highest : List (List ℕ)
from_highest = [] ∷ (0 ∷ []) ∷ (0 ∷ 2 ∷ []) ∷ []

-- the second switch is left out
abbrev pub left_out : List (List ℕ)
left_out = [] ∷ (0 ∷ []) ∷ []
