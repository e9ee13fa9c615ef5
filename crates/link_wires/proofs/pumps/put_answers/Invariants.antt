use Rattle.std.proofs.Common.{◌≡◌, ◌++◌, drop}
use Rattle.link_wires.specs.Wires.{answers}
use Rattle.link_wires.proofs.pumps.put_answers.Given as goal

-- the symbols that are left, behind those before them, are all of them
abbrev pub invariant-loop-symbol : goal.invariant-loop-symbol
invariant-loop-symbol l = record {
  kept : l.kept ++ (answers (drop l.symbol-index l.replies)).sent
      ≡ l.initial.kept ++ (answers l.replies).sent;
  chars : l.chars.items ++ (answers (drop l.symbol-index l.replies)).chars
      ≡ l.initial.chars.items ++ (answers l.replies).chars;
}
