-- The devices and links that lines of set-up make.
use Rattle.std.specs.Prelude.{◌≡◌, ◌≢◌, ℕ, ◌<◌, ◌≤◌, ◌⊎◌, true, false, List, [], ◌∷◌, ◌++◌, length, Some, None, Result, Ok, Err, IsSome, option_map, slice_get, ⊤}
use Rattle.maint_registers.specs.Devices.{Registers, is_switch, new_endpoint, new_switch}
use Rattle.maint_registers.specs.Changes.{with_device, linked_at, routed, defaulted, held_by, large_set}
use Rattle.fabric_script.specs.declared.ports.PortRef.{PortRef}
use Rattle.fabric_script.specs.declared.lines.Line.{Line}
use Rattle.fabric_script.specs.declared.lines.Line.TheVariants.{Endpoint, Switch, Link, Route, Default, Lock, Large}
use Rattle.fabric_script.specs.declared.lines.Numbered.{Numbered}
use Rattle.fabric_script.specs.Known.{links_after}
use Rattle.fabric_script.specs.Peers.{peer_in}
use Rattle.fabric_script.specs.Ports.{port_at}
use Rattle.host_enumerate.specs.declared.devising.NoHost.{NoHost}
use Rattle.host_enumerate.specs.declared.devising.NoHost.TheVariants.{Unknown, WrongKind, NotLinked}
use Rattle.fabric_map.specs.Plain.{registers_of}

-- the device of a port knows that the port has a link
abbrev pub with_linked_end : List Registers → PortRef → List Registers
with_linked_end devices p = with_device devices p.node (linked_at p.port)

-- the devices with one more line
abbrev pub devices_after : List Registers → Line → List Registers
devices_after devices (Endpoint name id) = devices ++ new_endpoint id false ∷ []
devices_after devices (Switch name ports) = devices ++ new_switch ports 0 ∷ []
devices_after devices (Link a b) = with_linked_end (with_linked_end devices a) b
devices_after devices (Route node id p) = with_device devices node (routed id p)
devices_after devices (Default node p) = with_device devices node (defaulted p)
devices_after devices (Lock node id) = with_device devices node (held_by id)
devices_after devices (Large node id) = with_device devices node (large_set id)
devices_after devices _ = devices

-- with all these lines
abbrev pub devices_after_all : List Registers → List Numbered → List Registers
devices_after_all devices [] = devices
devices_after_all devices (line ∷ lines) =
    devices_after_all (devices_after devices line.line) lines

abbrev pub links_after_all : List (PortRef × PortRef) → List Numbered → List (PortRef × PortRef)
links_after_all links [] = links
links_after_all links (line ∷ lines) = links_after_all (links_after links line.line) lines

-- what the lines of a script make
abbrev pub devices_of : List Numbered → List Registers
devices_of lines = devices_after_all [] lines

abbrev pub links_of : List Numbered → List (PortRef × PortRef)
links_of lines = links_after_all [] lines

-- The host is an endpoint with an ID and a link.
pub record IsHost (devices : List Registers) (links : List (PortRef × PortRef)) (host : ℕ)
    : Type 0 where
  pub endpoint : option_map is_switch (slice_get devices host) ≡ Some false
  pub has_id : (registers_of devices host).base_id < 255
  pub linked : IsSome (peer_in links (port_at host 0))

-- What a line needs of the devices before it: a switch has 2 to 16 ports; the ports of a link, a
-- route and a default port are those of devices, the latter two of switches, and a route is for a
-- destination that has an entry; a lock is that of a device, and a 16-bit ID that of an endpoint.
abbrev pub MayDevise : List Registers → Line → Type 0
MayDevise devices (Switch name ports) = (2 ≤ ports) × (ports ≤ 16)
MayDevise devices (Link a b) = (a.node < length devices) × (a.port < 16)
    × (b.node < length devices) × (b.port < 16)
MayDevise devices (Route node id p) = (node < length devices)
    × (is_switch (registers_of devices node) ≡ true) × (id < 1024)
MayDevise devices (Default node p) =
    (node < length devices) × (is_switch (registers_of devices node) ≡ true)
MayDevise devices (Lock node id) = node < length devices
MayDevise devices (Large node id) =
    (node < length devices) × (is_switch (registers_of devices node) ≡ false)
MayDevise devices _ = ⊤

-- whether a node can be the host, or the first reason why not
abbrev pub JudgesHost : List Registers → List (PortRef × PortRef) → ℕ → Result (Unit {0}) NoHost
    → Type 0
JudgesHost devices links node (Ok _) = IsHost devices links node
JudgesHost devices links node (Err Unknown) = length devices ≤ node
JudgesHost devices links node (Err WrongKind) = (node < length devices)
    × ((is_switch (registers_of devices node) ≡ true)
    ⊎ ((registers_of devices node).base_id ≡ 255))
JudgesHost devices links node (Err NotLinked) = (is_switch (registers_of devices node) ≡ false)
    × ((registers_of devices node).base_id ≢ 255) × (node < length devices)
    × (peer_in links (port_at node 0) ≡ None)
