use Rattle.std.proofs.Common.{◌≡◌, map}
use Rattle.std.specs.List.{flat_map}
use Rattle.live_fabric.specs.Pieces.{told_piece}
use Rattle.live_fabric.proofs.quiet.quiet_lines.Given as goal

abbrev pub invariant-loop-piece : goal.invariant-loop-piece
invariant-loop-piece l = record {
  told : l.told.items ≡ flat_map told_piece (map (λ text. text.now) l.yielded);
}
