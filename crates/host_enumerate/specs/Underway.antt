-- How far a host has come in numbering a fabric: what stands between two accesses. It is said of
-- the devices that were met, the path that is tried next and the next ID, and of nothing else.
use Rattle.std.specs.Prelude.{◌≡◌, ◌≢◌, ℕ, ◌+◌, ◌<◌, ◌≤◌, ◌==◌, true, false, nat_lt, List, [], ◌∷◌, length, Contains, Some, unwrap_or, if◌then◌else◌}
use Rattle.maint_registers.specs.Devices.{Registers}
use Rattle.maint_registers.specs.Routes.{entry_of}
use Rattle.fabric_map.specs.declared.map.Kind.{Kind}
use Rattle.fabric_map.specs.declared.map.Kind.TheVariants.{Endpoint, Switch}
use Rattle.fabric_map.specs.declared.map.Device.{Device}
use Rattle.fabric_map.specs.Topology.{Topology, IsTopology, node_at}
use Rattle.fabric_map.specs.Walked.{Walked}
use Rattle.fabric_map.specs.Routes.{AllRegisters}
use Rattle.fabric_map.specs.Locked.{IsForeign}
use Rattle.fabric_map.specs.Numbered.{paths_of, is_given, port_toward, AreDescribed, IsMarked, ChangesOnly}

-- The table of a switch sends home by default and for the host's ID. For each ID from 0 to 62 other
-- than the host's it has the port that leads down the tree of paths, or 255 if none does.
pub record HasTable (host_id : ℕ) (devices : List Device) (path : List ℕ) (entry : ℕ)
    (held : Registers) : Type 0 where
  pub default : held.default_port ≡ entry
  pub home : entry_of held host_id ≡ entry
  pub branches : (id : ℕ) → id < 63 → id ≢ host_id
      → entry_of held id ≡ unwrap_or (port_toward devices path id) 255

abbrev pub HasTableOf : ℕ → List Device → Device → Registers → Type 0
HasTableOf host_id devices device held = of_kind device.kind
  where
    of_kind : Kind → Type 0
    of_kind (Endpoint id) = Unit {0}
    of_kind (Switch ports entry) = HasTable host_id devices device.path entry held

-- A device that was met: its registers before and now.
pub record IsHeld (host_id : ℕ) (devices : List Device) (device : Device)
    (before now : Registers) : Type 0 where
  pub marked : IsMarked host_id device now
  pub not_foreign : ¬ IsForeign host_id before.lock
  pub changes : ChangesOnly (host_id ∷ []) before now
  pub table : HasTableOf host_id devices device now

-- the ID that is given, if this number is next: the host's is left out
abbrev pub id_after : ℕ → ℕ → ℕ
id_after host_id next = if next == host_id then next + 1 else next

-- the device on a path as the list has it
abbrev pub met_as : List Device → Kind → List ℕ → Device
met_as devices kind path =
    record { tag = length devices + 1; kind = kind; path = path }

-- how many IDs are given, the host's among them, if this one is next
abbrev pub given_below : ℕ → ℕ → ℕ
given_below host_id next = if nat_lt host_id next then next else next + 1

-- IDs are given in order, leaving out the host's. Once the host is met, no more are given than
-- devices are met, and fewer if a switch is among them.
pub record IdsAreCounted (host_id : ℕ) (devices : List Device) (next : ℕ) : Type 0 where
  pub below : (id : ℕ) → id < next → id ≢ host_id → is_given devices id ≡ true
  pub rest : (id : ℕ) → next ≤ id → id ≢ host_id → is_given devices id ≡ false
  pub endpoints : (device : Device) → Contains devices device
      → given_below host_id next ≤ length devices
  pub switches : (device : Device) (ports entry : ℕ) → Contains devices device
      → device.kind ≡ Switch ports entry → given_below host_id next < length devices

-- the device was not met
abbrev pub IsUnmet : Topology → List Device → ℕ → Type 0
IsUnmet topology devices node = (device : Device) → Contains devices device
    → node_at topology device.path ≢ Some node

-- no device has a tag
abbrev pub AreUntagged : Topology → AllRegisters → Type 0
AreUntagged topology registers = (node : ℕ) → node < topology.nodes → (registers node).tag ≡ 0

-- no device that bears the ID of the host has a tag
abbrev pub AreOwnUntagged : Topology → AllRegisters → ℕ → Type 0
AreOwnUntagged topology registers host_id = (node : ℕ) → node < topology.nodes
    → (registers node).lock ≡ host_id → (registers node).tag ≡ 0

-- These devices were met before this path is tried, and this ID is given next if it is not the
-- host's. `held` is of each device that was met; all others are as before.
pub record IsUnderway (topology : Topology) (before now : AllRegisters) (host_id : ℕ)
    (devices : List Device) (next : ℕ) (bound : List ℕ) : Type 0 where
  pub proper : IsTopology topology
  pub id : (before topology.host).base_id ≡ host_id
  pub host_has_id : host_id < 255
  pub untagged : AreOwnUntagged topology before host_id
  pub walked : Walked topology (paths_of devices) bound
  pub described : AreDescribed topology host_id [] devices
  pub counted : IdsAreCounted host_id devices next
  pub short : (device : Device) → Contains devices device → length device.path < length devices
  pub held : (device : Device) (node : ℕ) → Contains devices device
      → node_at topology device.path ≡ Some node
      → IsHeld host_id devices device (before node) (now node)
  pub others : (node : ℕ) → IsUnmet topology devices node → now node ≡ before node
