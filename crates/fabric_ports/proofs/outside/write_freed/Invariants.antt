use Rattle.std.proofs.Common.{take, map}
use Rattle.link_wires.specs.declared.moves.Move.TheVariants.{Freed}
use Rattle.trace_lines.specs.Writing.{Adds}
use Rattle.fabric_ports.specs.Outside.{move_told}
use Rattle.fabric_ports.proofs.outside.write_freed.Given as goal

abbrev pub invariant-loop-packet : goal.invariant-loop-packet
invariant-loop-packet g l =
    Adds l.initial.writer l.writer
    (map (move_told l.port) (map (λ packet. Freed packet) (take l.packet-index l.freed)))
