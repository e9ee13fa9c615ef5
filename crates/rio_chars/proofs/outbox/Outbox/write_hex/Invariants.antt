use Rattle.std.proofs.Common.{◌≡◌, ◌++◌, ℕ, List, length}
use Rattle.rio_chars.specs.HexText.{hex_of}
use Rattle.rio_chars.specs.Written.{Writes}
use Rattle.rio_chars.proofs.outbox.Outbox.write_hex.Given as goal

abbrev pub invariant-loop-rest : goal.invariant-loop-rest
invariant-loop-rest g l =
    (done : List ℕ) × (l.initial.bytes ≡ done ++ l.rest)
    × Writes l.initial.self l.self (hex_of done)

abbrev pub decreases-loop-rest : goal.decreases-loop-rest
decreases-loop-rest g l = length l.rest
