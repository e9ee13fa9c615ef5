-- Where the ports of a fabric stand in its list.
use Rattle.std.specs.Prelude.{◌≡◌, ℕ, ◌+◌, ◌<◌, false, true, List, [], ◌∷◌, Some, slice_get, slice_index_or}
use Rattle.fabric_script.specs.declared.ports.PortRef.{PortRef}
use Rattle.maint_registers.specs.Devices.{Registers, is_switch}
pub use Rattle.fabric_model.specs.Laws.Nodes.{HasPort, IsPortOf}

-- each device's ports stand in a row, behind those of the devices before it: where the first of
-- each stands
abbrev pub AreFirsts : ℕ → List Registers → List ℕ → Type 0
AreFirsts place [] [] = Unit {0}
AreFirsts place [] (first ∷ firsts) = ⊥
AreFirsts place (device ∷ devices) [] = ⊥
AreFirsts place (device ∷ devices) (first ∷ firsts) =
    (first ≡ place) × AreFirsts (place + device.ports) devices firsts

-- how many ports the devices have
abbrev pub port_count : List Registers → ℕ
port_count [] = 0
port_count (device ∷ devices) = device.ports + port_count devices

-- the device is an endpoint
pub record IsEndpointAt (devices : List Registers) (node : ℕ) : Type 0 where
  pub device : Registers
  pub stands : slice_get devices node ≡ Some device
  pub kind : is_switch device ≡ false
  pub has_port : 0 < device.ports

-- the device is a switch
pub record IsSwitchAt (devices : List Registers) (node : ℕ) : Type 0 where
  pub device : Registers
  pub stands : slice_get devices node ≡ Some device
  pub kind : is_switch device ≡ true

-- where it stands
abbrev pub place_of : List ℕ → PortRef → ℕ
place_of firsts p = slice_index_or firsts p.node 0 + p.port
