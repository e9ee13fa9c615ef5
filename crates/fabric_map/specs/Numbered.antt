-- What the map of a numbered fabric says, and what the registers of its devices are.
use Rattle.std.specs.Prelude.{◌≡◌, ◌≢◌, ℕ, zero, suc, ◌+◌, ◌<◌, ◌==◌, Bool, true, false, List, [], ◌∷◌, ◌++◌, length, map, filter, find, flat_map, Contains, Option, Some, None, unwrap_or, if◌then◌else◌}
use Rattle.std.specs.List.{list_any}
use Rattle.std.specs.Option.{option_and_then}
use Rattle.fabric_script.specs.declared.ports.PortRef.{PortRef}
use Rattle.maint_registers.specs.Devices.{Registers}
use Rattle.maint_registers.specs.Routes.{entry_of, next_port}
use Rattle.fabric_map.specs.declared.map.Kind.{Kind}
use Rattle.fabric_map.specs.declared.map.Kind.TheVariants.{Endpoint, Switch}
use Rattle.fabric_map.specs.declared.map.Device.{Device}
use Rattle.fabric_map.specs.declared.map.Entry.{Entry}
use Rattle.fabric_map.specs.Topology.{Topology, entered, node_at, IsReached}
use Rattle.fabric_map.specs.Walked.{Walked, after_all_paths}
use Rattle.fabric_map.specs.Routes.{AllRegisters, PacketComes}

abbrev pub paths_of : List Device → List (List ℕ)
paths_of devices = map (λ (device : Device). device.path) devices

-- it is the endpoint with this ID
abbrev pub device_has_id : ℕ → Device → Bool
device_has_id id device = is_id device.kind
  where
    is_id : Kind → Bool
    is_id (Endpoint given) = given == id
    is_id (Switch ports entry) = false

-- one of them has the ID
abbrev pub is_given : List Device → ℕ → Bool
is_given devices id = list_any (device_has_id id) devices

-- no device before has the ID, and each lesser ID is given
pub record IsLeastFree (before : List Device) (id : ℕ) : Type 0 where
  pub free : is_given before id ≡ false
  pub least : (lesser : ℕ) → lesser < id → is_given before lesser ≡ true

-- The host, which is the first device, keeps its ID. Each later endpoint has the least ID that is
-- free.
abbrev pub IsIdOf : ℕ → List Device → ℕ → Type 0
IsIdOf host_id [] id = id ≡ host_id
IsIdOf host_id (first ∷ rest) id = IsLeastFree (first ∷ rest) id

-- an endpoint with its ID, or a switch with as many ports, entered by this one
abbrev pub IsKindAt : ℕ → List Device → PortRef → Option ℕ → Kind → Type 0
IsKindAt host_id before at None (Endpoint id) = IsIdOf host_id before id
IsKindAt host_id before at None (Switch ports entry) = ⊥
IsKindAt host_id before at (Some ports) (Endpoint id) = ⊥
IsKindAt host_id before at (Some ports) (Switch shown entry) = (shown ≡ ports) × (entry ≡ at.port)

-- what the map says of a device, behind those that were met before
pub record IsDescribed (topology : Topology) (host_id : ℕ) (before : List Device)
    (device : Device) : Type 0 where
  pub tag : device.tag ≡ length before + 1
  pub at : PortRef
  pub path : entered topology device.path ≡ Some at
  pub kind : IsKindAt host_id before at (topology.switch_ports at.node) device.kind

-- each device is described behind those before it
abbrev pub AreDescribed : Topology → ℕ → List Device → List Device → Type 0
AreDescribed topology host_id before [] = Unit {0}
AreDescribed topology host_id before (device ∷ rest) =
    IsDescribed topology host_id before device
    × AreDescribed topology host_id (before ++ device ∷ []) rest

-- The port by which a path goes on behind another, if it begins with that.
abbrev pub toward : List ℕ → List ℕ → Option ℕ
toward [] [] = None
toward [] (port ∷ path) = Some port
toward (x ∷ front) [] = None
toward (x ∷ front) (y ∷ path) = if x == y then toward front path else None

-- the port by which a path leads to the endpoint with an ID, if it leads there
abbrev pub port_toward : List Device → List ℕ → ℕ → Option ℕ
port_toward devices path id =
    option_and_then (λ (endpoint : Device). toward path endpoint.path)
    (find (device_has_id id) devices)

-- The port by which a switch sends packets for an ID: that of the way to its endpoint if this is
-- below the switch in the tree of paths, else the port by which the switch was entered.
abbrev pub port_for : List Device → List ℕ → ℕ → ℕ → ℕ
port_for devices path entry id = unwrap_or (port_toward devices path id) entry

-- all numbers below this one, in order
abbrev pub numbers_below : ℕ → List ℕ
numbers_below zero = []
numbers_below (suc n) = numbers_below n ++ n ∷ []

-- the IDs that are given, in order; 255 is given to none
unfoldable pub given_ids : List Device → List ℕ
given_ids devices = filter (is_given devices) (numbers_below 255)

-- the entries of one device for these IDs
abbrev pub entries_at : List Device → List ℕ → Device → List Entry
entries_at devices ids device = of_kind device.kind
  where
    of_kind : Kind → List Entry
    of_kind (Endpoint id) = []
    of_kind (Switch ports entry) =
        map (λ id. record {
          tag = device.tag;
          id = id;
          port = port_for devices device.path entry id;
        })
        ids

-- one entry for each switch and each ID that is given
abbrev pub entries_of : List Device → List Entry
entries_of devices = flat_map (entries_at devices (given_ids devices)) devices

-- The map of a fabric whose host has this ID: every device that is reached, in the order of paths.
pub record IsMap (topology : Topology) (host_id : ℕ) (devices : List Device)
    (entries : List Entry) : Type 0 where
  pub walked : Walked topology (paths_of devices) after_all_paths
  pub described : AreDescribed topology host_id [] devices
  pub listed : entries ≡ entries_of devices

-- the base device ID of an endpoint is that of the map
abbrev pub HasBaseId : Registers → Kind → Type 0
HasBaseId held (Endpoint id) = held.base_id ≡ id
HasBaseId held (Switch ports entry) = Unit {0}

-- the host holds a device of the map, which has its tag, and its ID if it is an endpoint
pub record IsMarked (host_id : ℕ) (device : Device) (held : Registers) : Type 0 where
  pub lock : held.lock ≡ host_id
  pub tag : held.tag ≡ device.tag
  pub base_id : HasBaseId held device.kind

-- Only these registers of a device may change: lock, tag, ID, selected destination, default port,
-- and the entries 0 to 62, of these hosts' IDs and of 255.
pub record ChangesOnly (host_ids : List ℕ) (old new : Registers) : Type 0 where
  pub rest : new ≡ record old {
    lock = new.lock;
    tag = new.tag;
    base_id = new.base_id;
    select = new.select;
    routes = new.routes;
    default_port = new.default_port;
  }
  pub routes : (id : ℕ) → 62 < id → id ≢ 255 → ¬ Contains host_ids id
      → entry_of new id ≡ entry_of old id

-- A fabric is numbered by the host: its map, and its registers before and after. `marked` is of
-- each device of the map, `tables` of each entry; packets for a given ID come to its endpoint from
-- each other device.
pub record IsNumbered (topology : Topology) (devices : List Device) (entries : List Entry)
    (before after : AllRegisters) : Type 0 where
  pub map : IsMap topology (before topology.host).base_id devices entries
  pub marked : (device : Device) (node : ℕ) → Contains devices device
      → node_at topology device.path ≡ Some node
      → IsMarked (before topology.host).base_id device (after node)
  pub tables : (entry : Entry) (device : Device) (node : ℕ)
      → Contains entries entry → Contains devices device
      → device.tag ≡ entry.tag → node_at topology device.path ≡ Some node
      → next_port (after node) entry.id ≡ Some entry.port
  pub routed : (id from to : ℕ) (device goal : Device)
      → Contains devices device → Contains devices goal
      → node_at topology device.path ≡ Some from → node_at topology goal.path ≡ Some to
      → device_has_id id goal ≡ true → from ≢ to → PacketComes topology after id from to
  pub outside : (node : ℕ) → ¬ IsReached topology node → after node ≡ before node
  pub inside : (node : ℕ) → IsReached topology node
      → ChangesOnly ((before topology.host).base_id ∷ []) (before node) (after node)
