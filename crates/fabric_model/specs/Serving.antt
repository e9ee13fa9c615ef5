-- What a device does with a packet that is first in one of its lists: where a switch sends it, and
-- what the registers answer to a request.
use Rattle.std.specs.Prelude.{ℕ, List, slice_get, Option, Some, None, option_map, option_and_then, if◌then◌else◌}
use Rattle.maint_registers.specs.Devices.{Registers, is_switch}
use Rattle.maint_packets.specs.declared.next_hop.Next.{Next}
use Rattle.maint_packets.specs.declared.request.Request.{Request}
use Rattle.maint_packets.specs.NextHops.{next_of}
use Rattle.maint_packets.specs.Requests.{request_of}
use Rattle.maint_packets.specs.Responses.{response_bytes}
use Rattle.maint_packets.specs.Answers.{request_answered}
use Rattle.fabric_script.specs.declared.ports.PortRef.{PortRef}
use Rattle.fabric_model.specs.Network.{Network}

-- where a switch sends a packet; of a node that is no switch nothing is said
abbrev pub next_at : Network → ℕ → List ℕ → Option Next
next_at net n packet =
    option_and_then
    (λ device. if is_switch device then Some (next_of device packet) else None)
    (slice_get net.registers n)

-- what the registers answer to a packet that came to a port, if it is a request
abbrev pub response_at : Network → PortRef → List ℕ → Option (List ℕ)
response_at net p packet =
    option_and_then
    (λ device.
    option_map (λ request. response_bytes (request_answered device request p.port).response)
    (request_of packet)) (slice_get net.registers p.node)

-- a device after it answered a request on a port
abbrev pub device_after : ℕ → Option Request → Registers → Registers
device_after port None device = device
device_after port (Some request) device = (request_answered device request port).device
