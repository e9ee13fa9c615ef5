use Rattle.host_enumerate.proofs.Prelude.{take, flat_map, Writes, port_behind_point}
use Rattle.host_enumerate.proofs.map_lines.write_ports.Given as goal

abbrev pub invariant-loop-port : goal.invariant-loop-port
invariant-loop-port g l =
    Writes l.initial.outbox l.outbox
    (flat_map port_behind_point (take l.port-index l.ports))
