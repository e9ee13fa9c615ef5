use Rattle.std.proofs.Common.{◌≡◌, ◌++◌, List, length}
use Rattle.rio_chars.specs.CharText.{spaced_chars}
use Rattle.rio_chars.specs.Written.{Writes}
use Rattle.rio_chars.specs.declared.chars.Char.{Char}
use Rattle.rio_chars.proofs.outbox.Outbox.write_chars.Given as goal

abbrev pub invariant-loop-left : goal.invariant-loop-left
invariant-loop-left g l =
    (done : List Char) × (l.initial.chars ≡ done ++ l.left)
    × Writes l.initial.self l.self (spaced_chars done)

abbrev pub decreases-loop-left : goal.decreases-loop-left
decreases-loop-left g l = length l.left
