-- A switch that was taken in, whose ports are tried, and what is found behind them.
use Rattle.std.specs.Prelude.{◌≡◌, ◌≢◌, ℕ, ◌+◌, ◌<◌, List, [], length, Contains, Option, Some, None}
use Rattle.fabric_script.specs.declared.ports.PortRef.{PortRef}
use Rattle.fabric_map.specs.declared.map.Device.{Device}
use Rattle.fabric_map.specs.Topology.{Topology, entered}
use Rattle.fabric_map.specs.Walked.{onward}
use Rattle.fabric_map.specs.Routes.{AllRegisters}
use Rattle.fabric_map.specs.Ways.{IsOpened}
use Rattle.fabric_map.specs.Numbered.{paths_of}
use Rattle.host_enumerate.specs.declared.walk.Found.{Found}
use Rattle.host_enumerate.specs.declared.maint.Maint.{Ghosts}
use Rattle.host_enumerate.specs.declared.taking.Numbering.{Numbering}

-- A switch was met and can be asked.
pub record IsFound (topology : Topology) (registers : AllRegisters) (host_id : ℕ)
    (devices : List Device) (found : Found) : Type 0 where
  pub at : PortRef
  pub leads : entered topology found.path ≡ Some at
  pub switch : topology.switch_ports at.node ≡ Some found.ports
  pub entry : found.entry ≡ at.port
  pub away : found.path ≢ []
  pub listed : Contains (paths_of devices) found.path
  pub opened : IsOpened topology registers host_id found.path

-- as far as a numbering has come
abbrev pub HasFound : {S : Type 0} → Ghosts S → S → Numbering → Found → Type 0
HasFound m now numbering found =
    IsFound (m.topology now) (m.registers now) numbering.host_id numbering.devices.items found

-- The path that is tried after a port of the switch on a path: that by the next port, or by the
-- first of a switch that was found behind it.
abbrev pub tried_after : List ℕ → ℕ → Option Found → List ℕ
tried_after path port None = onward path (port + 1)
tried_after path port (Some found) = onward found.path 0

-- The switch can still be asked; or one that was found behind its port can, which is one device
-- more.
abbrev pub IsFoundBehind : {S : Type 0} → Ghosts S → S → Numbering → Numbering → Found → ℕ
    → Option Found → Type 0
IsFoundBehind m now old new switch port None = HasFound m now new switch
IsFoundBehind m now old new switch port (Some found) =
    HasFound m now new found × (found.path ≡ onward switch.path port)
    × (length old.devices.items < length new.devices.items)
