use Rattle.std.proofs.Common.{◌≡◌, ◌++◌}
use Rattle.link_wires.specs.Wires.{port_turned, bursts}
use Rattle.link_wires.proofs.pumps.put_turns.Given as goal

-- what the turns that are left do, behind those before them, is what all of them do
abbrev pub invariant-loop-left : goal.invariant-loop-left
invariant-loop-left l = record {
  port : port_turned l.left l.port ≡ port_turned l.turns l.initial.port;
  kept : l.kept ++ (bursts l.left l.port).sent
      ≡ l.initial.kept ++ (bursts l.turns l.initial.port).sent;
  chars : l.chars.items ++ (bursts l.left l.port).chars
      ≡ l.initial.chars.items ++ (bursts l.turns l.initial.port).chars;
}

abbrev pub decreases-loop-left : goal.decreases-loop-left
decreases-loop-left l = l.left
