use Rattle.std.proofs.Common.{◌≡◌, false, [], length, map}
use Rattle.std.specs.String.{string_bytes}
use Rattle.rio_conform.proofs.PlayLaws.{SoFar}
use Rattle.rio_conform.proofs.playing.play_lines.Given as goal

abbrev pub invariant-loop-left : goal.invariant-loop-left
invariant-loop-left g l = record {
  so_far : SoFar l.strict l.initial.outbox l.outbox l.initial.trial.port l.trial.port
      l.initial.trial.judge l.trial.judge
      (g.S.Source.left l.initial.source) (g.S.Source.left l.source) l.trial.input
      (map string_bytes l.initial.lines) (map string_bytes l.left);
  fine : l.outbox.failed ≡ false;
  empty : l.outbox.waiting ≡ [];
}

abbrev pub decreases-loop-left : goal.decreases-loop-left
decreases-loop-left g l = length l.left
