-- What an ask that is answered comes to.
use Rattle.std.specs.Prelude.{◌≡◌, ◌≢◌, ℕ, zero, suc, List, [], ◌∷◌, ◌++◌, Option, Some, option_map, unwrap_or}
use Rattle.std.specs.Option.{option_and_then}
use Rattle.maint_registers.specs.Devices.{Registers}
use Rattle.maint_registers.specs.Routes.{next_port}
use Rattle.maint_packets.specs.declared.request.Request.{Request}
use Rattle.maint_packets.specs.declared.response.Response.{Response}
use Rattle.maint_packets.specs.Responses.{response_of}
use Rattle.maint_packets.specs.Answers.{request_answered}
use Rattle.fabric_script.specs.declared.ports.PortRef.{PortRef}
use Rattle.fabric_map.specs.Topology.{Topology}
use Rattle.fabric_map.specs.Routes.{AllRegisters, walk}
use Rattle.fabric_map.specs.Plain.{topology_of, registers_of}
use Rattle.fabric_model.specs.Network.{port_of, with_device}
use Rattle.fabric_model.specs.Steps.{Leave, AtNode}
use Rattle.fabric_trace.specs.Fold.{seen}
use Rattle.fabric_trace.specs.Known.{Seen}
use Rattle.trace_lines.specs.Lines.{TraceLine, Stepped}
use Rattle.fabric_trace.specs.Parts.{Made}
use Rattle.fabric_ask.specs.Only.{IsClear}
use Rattle.fabric_ask.specs.Own.{CollectsNothing}

-- the registers of the device of a port, as a request that came there leaves them
abbrev pub after_request : List Registers → PortRef → Request → List Registers
after_request registers at request = with_device registers at.node
    (λ device. (request_answered device request at.port).device)

-- A request of a host goes to the device of this port, which is another, and the response comes
-- back to the host, by the tables as the answer leaves them.
pub record IsRoundTrip (registers : List Registers) (links : List (PortRef × PortRef)) (host : ℕ)
    (request : Request) (at : PortRef) : Type 0 where
  pub ends : walk (topology_of registers links host) (registers_of registers) request.dest
      request.hop (port_of host) ≡ Some at
  pub away : at.node ≢ host
  pub returns : walk (topology_of (after_request registers at request) links host)
      (registers_of (after_request registers at request)) request.source 255 at ≡ Some
      (port_of host)

-- the port by which a switch sends a packet on
abbrev pub next_port_at : Topology → AllRegisters → ℕ → ℕ → Option ℕ
next_port_at topology registers node dest =
    option_and_then (λ ports. next_port (registers node) dest) (topology.switch_ports node)

-- how many hops a packet has left at the end of its way: one less behind each switch that sends it
-- on
abbrev pub hops_left : Topology → AllRegisters → ℕ → ℕ → PortRef → ℕ
hops_left topology registers dest zero at = 0
hops_left topology registers dest (suc hops) at =
    unwrap_or
    (option_and_then
    (λ next. option_map
    (λ port. hops_left topology registers dest hops record { node = next.node; port = port })
    (next_port_at topology registers next.node dest))
    (topology.peer at)) (suc hops)

-- the response as it comes back to the host
abbrev pub response_home : List Registers → List (PortRef × PortRef) → ℕ → Request → PortRef
    → Response
response_home registers links host request at =
    record (request_answered (registers_of registers at.node) request at.port).response {
      hop = hops_left (topology_of (after_request registers at request) links host)
          (registers_of (after_request registers at request)) request.source 255 at;
    }

-- The ask is answered. The last line is that the response leaves at the host, which collects
-- nothing before it. The registers are those that the answer left, and no packet is in the network.
pub record IsReplied (host : ℕ) (s : Seen) (lines : List TraceLine) (at : PortRef)
    (request : Request) : Type 0 where
  pub front : List TraceLine
  pub packet : List ℕ
  pub whole : lines ≡ front ++ Stepped (AtNode (Leave host packet)) ∷ []
  pub nothing : CollectsNothing host front
  pub response : response_of packet
      ≡ Some (response_home s.network.registers s.network.links host request at)
  pub clear : IsClear (seen s lines).network
  pub registers : (seen s lines).network.registers ≡ after_request s.network.registers at request
  pub made : Made s lines
