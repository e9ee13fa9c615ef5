-- What the registers of a device hold, as contracts see them.
use Rattle.std.specs.Prelude.{◌≡◌, ℕ, ◌+◌, ◌/◌, ◌%◌, ◌^◌, ◌==◌, ◌<◌, ◌≤◌, Bool, true, false, List, length, replicate, if◌then◌else◌}
use Rattle.maint_registers.specs.declared.registers.DeviceKind.{DeviceKind}
use Rattle.maint_registers.specs.declared.registers.DeviceKind.TheVariants.{Endpoint, Switch}

-- `ports` is how many ports there are, 1 for an endpoint. Bit n of `linked`, from the lowest, tells
-- whether port n has a link. `base_id` is an endpoint's own ID of 8 bits, and `large_id` that of 16
-- bits; both are 0 for a switch. `lock` is the ID of the host that holds the device, or 0xffff if
-- none does. `standard` tells whether it shows the registers besides that standard hosts look for.
-- `routes` has the entry of each destination from 0 to 1023, of either size; entry and default port
-- count for a switch alone, and `select` is the destination whose entry can be read and written.
pub record Registers : Type 0 where
  pub kind : DeviceKind
  pub ports : ℕ
  pub linked : ℕ
  pub base_id : ℕ
  pub large_id : ℕ
  pub lock : ℕ
  pub tag : ℕ
  pub select : ℕ
  pub routes : List ℕ
  pub default_port : ℕ
  pub standard : Bool

-- It is the same device, whatever was written to it: of the same kind, with the same ports, the
-- same links and the same ID of 16 bits, and it shows the same registers. No write changes these.
pub record IsSameDevice (before after : Registers) : Type 0 where
  pub kind : after.kind ≡ before.kind
  pub ports : after.ports ≡ before.ports
  pub linked : after.linked ≡ before.linked
  pub large_id : after.large_id ≡ before.large_id
  pub standard : after.standard ≡ before.standard

abbrev pub is_switch : Registers → Bool
is_switch device = is_kind device.kind
  where
    is_kind : DeviceKind → Bool
    is_kind Endpoint = false
    is_kind Switch = true

-- what is true of the registers of every device
pub record IsDevice (device : Registers) : Type 0 where
  pub most_ports : device.ports ≤ 16
  pub endpoint_ports : is_switch device ≡ false → device.ports ≡ 1
  pub switch_id : is_switch device ≡ true → device.base_id ≡ 0
  pub switch_large : is_switch device ≡ true → device.large_id ≡ 0
  pub destinations : length device.routes ≡ 1024
  pub selected : device.select < 1024

-- the links of a device, with that of this port among them: its bit is set
abbrev pub with_link : ℕ → ℕ → ℕ
with_link linked port = if linked / 2 ^ port % 2 == 1 then linked else linked + 2 ^ port

-- no destination has an entry
unfoldable pub no_routes : List ℕ
no_routes = replicate 1024 255

-- an endpoint at first: it has no ID of 16 bits, which is 0xffff, nobody holds it, and its tag is 0
abbrev pub new_endpoint : ℕ → Bool → Registers
new_endpoint id linked = record {
  kind = Endpoint;
  ports = 1;
  linked = (if linked then 1 else 0);
  base_id = id;
  large_id = 0xffff;
  lock = 0xffff;
  tag = 0;
  select = 0;
  routes = no_routes;
  default_port = 255;
  standard = false;
}

-- a switch at first: nobody holds it, its tag is 0, and it discards every packet
abbrev pub new_switch : ℕ → ℕ → Registers
new_switch ports linked = record {
  kind = Switch;
  ports = ports;
  linked = linked;
  base_id = 0;
  large_id = 0;
  lock = 0xffff;
  tag = 0;
  select = 0;
  routes = no_routes;
  default_port = 255;
  standard = false;
}
