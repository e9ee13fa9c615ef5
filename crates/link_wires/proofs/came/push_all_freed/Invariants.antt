use Rattle.std.proofs.Common.{◌≡◌, ◌++◌, map, take}
use Rattle.link_wires.specs.declared.moves.Move.TheVariants.{Freed}
use Rattle.link_wires.proofs.came.push_all_freed.Given as goal

-- those before this place are pushed
abbrev pub invariant-loop-packet : goal.invariant-loop-packet
invariant-loop-packet l =
    l.moves.items
    ≡ l.initial.moves.items ++ map (λ packet. Freed packet) (take l.packet-index l.freed)
