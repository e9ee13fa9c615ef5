-- Where packets go by the route tables (RapidIO Interconnect Specification 1.3, Part 3, routing and
-- hop counts).
use Rattle.std.specs.Prelude.{◌≡◌, ℕ, zero, suc, Option, Some, None}
use Rattle.std.specs.Option.{option_and_then}
use Rattle.fabric_script.specs.declared.ports.PortRef.{PortRef}
use Rattle.fabric_script.specs.Ports.{port_at}
use Rattle.maint_registers.specs.Devices.{Registers}
use Rattle.maint_registers.specs.Routes.{next_port}
use Rattle.fabric_map.specs.Topology.{Topology}

-- the registers of each device
abbrev pub AllRegisters : Type 0
AllRegisters = ℕ → Registers

-- what becomes of a packet that came to a port and has a hop left: it ends at an endpoint, and goes
-- on behind a switch
abbrev pub passed : Topology → AllRegisters → ℕ → (PortRef → Option PortRef) → PortRef
    → Option PortRef
passed topology registers dest on next = of_kind (topology.switch_ports next.node)
  where
    of_kind : Option ℕ → Option PortRef
    of_kind None = Some next
    of_kind (Some ports) =
        option_and_then (λ port. on (port_at next.node port))
        (next_port (registers next.node) dest)

-- Where a maintenance packet ends that leaves a port: the port by which it enters its last device.
-- That is an endpoint, or a switch at which the hop count is 0; each switch on the way lowers it by
-- one. It ends nowhere if it comes to a port without a link or to a switch that discards it.
abbrev pub walk : Topology → AllRegisters → ℕ → ℕ → PortRef → Option PortRef
walk topology registers dest zero at = topology.peer at
walk topology registers dest (suc hops) at =
    option_and_then
    (passed topology registers dest (λ next. walk topology registers dest hops next))
    (topology.peer at)

-- A packet for an ID, other than a maintenance packet, that leaves a port comes to this endpoint.
pub data Arrives (topology : Topology) (registers : AllRegisters) (id node : ℕ) : PortRef
    → Type 0 where
  AtEndpoint : (at next : PortRef) → topology.peer at ≡ Some next
      → topology.switch_ports next.node ≡ None → next.node ≡ node
      → Arrives topology registers id node at
  ThroughSwitch : (at next : PortRef) (ports port : ℕ) → topology.peer at ≡ Some next
      → topology.switch_ports next.node ≡ Some ports
      → next_port (registers next.node) id ≡ Some port
      → Arrives topology registers id node (port_at next.node port)
      → Arrives topology registers id node at

-- A packet for an ID comes from one device to another. An endpoint sends it by its port, a switch
-- by its table.
abbrev pub PacketComes : Topology → AllRegisters → ℕ → ℕ → ℕ → Type 0
PacketComes topology registers id from to = sent (topology.switch_ports from)
  where
    sent : Option ℕ → Type 0
    sent None = Arrives topology registers id to (port_at from 0)
    sent (Some ports) =
        (port : ℕ) × (next_port (registers from) id ≡ Some port)
        × Arrives topology registers id to (port_at from port)
