-- What lines of set-up have made, before there are ports.
use Rattle.std.specs.Prelude.{◌≡◌, ℕ, ◌<◌, Bool, true, false, List, All, map, length, Some, slice_get, slice_set, get_or}
use Rattle.link_machine.specs.States.{empty_wires}
use Rattle.link_port.specs.Ports.{PortState, new_port}
use Rattle.link_sound.specs.Histories.{AreBuffers}
use Rattle.fabric_script.specs.declared.ports.PortRef.{PortRef}
use Rattle.fabric_script.specs.declared.lines.Line.{Line}
use Rattle.fabric_script.specs.declared.lines.Line.TheVariants.{Endpoint, Switch, Link}
use Rattle.fabric_model.specs.Network.{Network, bare}
use Rattle.maint_registers.specs.Devices.{Registers}
use Rattle.fabric_trace.specs.Settings.{with_end}
use Rattle.fabric_trace.specs.SetUps.{MaySetUp}
use Rattle.fabric_ports.specs.Places.{AreFirsts, port_count, IsPortOf, place_of}
use Rattle.fabric_ports.specs.Showing.{ends_of, AreRegisters}
use Rattle.fabric_ports.specs.declared.fabric.Cable.{Cable}
use Rattle.fabric_ports.specs.declared.plans.Plan.{Plan}
use Rattle.fabric_ports.specs.declared.plans.PortPlan.{PortPlan}

-- how many ports each device has
abbrev pub counts_of : List Registers → List ℕ
counts_of devices = map (λ (device : Registers). device.ports) devices

abbrev pub HasPorts : Registers → Type 0
HasPorts device = 0 < device.ports

-- 4 to 30 buffers
abbrev pub HasBuffers : PortPlan → Type 0
HasBuffers port = AreBuffers port.buffers

-- a port of which no line of set-up says anything
abbrev pub plain_port : PortPlan
plain_port = record { buffers = 8; tells = false }

-- what a port of a network gets
abbrev pub port_plan : Network → PortRef → PortPlan
port_plan net p = record { buffers = net.buffers p; tells = net.tells p }

-- the new port of a plan
abbrev pub planned_port : PortPlan → PortState
planned_port port = new_port port.tells port.buffers

-- the plans, of which the one at this place is changed
abbrev pub with_plan : List PortPlan → ℕ → (PortPlan → PortPlan) → List PortPlan
with_plan plans place change =
    slice_set plans place (change (get_or plans place plain_port))

-- Each device of a plan has a port, their ports stand in rows, and the plan says of each what it
-- gets.
pub record IsPlan (plan : Plan) : Type 0 where
  pub have_ports : All HasPorts plan.devices.items
  pub firsts : AreFirsts 0 plan.devices.items plan.firsts.items
  pub count : length plan.ports.items ≡ port_count plan.devices.items
  pub few : All HasBuffers plan.ports.items

-- a cable joins ports of these devices, and nothing is on its wires
pub record IsNewCable (devices : List Registers) (cable : Cable) : Type 0 where
  pub port_a : IsPortOf devices cable.a
  pub port_b : IsPortOf devices cable.b
  pub wires : cable.link ≡ empty_wires

-- A plan has the links, the registers and the ports of a network, whose ports at other devices are
-- plain.
pub record PlansFor (plan : Plan) (net : Network) : Type 0 where
  pub whole : IsPlan plan
  pub ports : (p : PortRef) → IsPortOf plan.devices.items p
      → slice_get plan.ports.items (place_of plan.firsts.items p) ≡ Some (port_plan net p)
  pub other_ports : (p : PortRef) → ¬ IsPortOf plan.devices.items p
      → port_plan net p ≡ plain_port
  pub cables : All (IsNewCable plan.devices.items) plan.cables.items
  pub links : map ends_of plan.cables.items ≡ net.links
  pub registers : AreRegisters net plan.devices.items

-- the plan is one for a network in which the line may be set up
pub record MayAdd (plan : Plan) (line : Line) : Type 0 where
  pub net : Network
  pub plans : PlansFor plan net
  pub may : MaySetUp net line

-- whether a line makes a device or a link; any other changes at most what is there
abbrev pub is_new : Line → Bool
is_new (Endpoint name id) = true
is_new (Switch name ports) = true
is_new (Link a b) = true
is_new _ = false

-- the devices, of which that of a port knows that the port has a link
abbrev pub with_end_at : List Registers → PortRef → List Registers
with_end_at devices p = (with_end (record bare { registers = devices }) p).registers
