use Rattle.std.proofs.Common.{◌≡◌, ◌<◌, drop}
use Rattle.link_port.specs.Faces.{AreLists}
use Rattle.fabric_ports.specs.Gathering.{has_packets}
use Rattle.fabric_ports.proofs.gathering.holds_packet.Given as goal

-- no lower priority has a packet
abbrev pub invariant-loop-prio : goal.invariant-loop-prio
invariant-loop-prio l =
    (has_packets (drop l.prio l.port.received.lists) ≡ has_packets l.port.received.lists)
    × (0 < l.prio → AreLists l.port.received.lists)
