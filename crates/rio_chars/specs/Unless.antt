-- Bytes that are written unless a write has failed.
use Rattle.std.specs.Prelude.{◌≡◌, ◌≤◌, ℕ, Option, List, Bool, true, false}
use Rattle.std.specs.Io.KnownBytes.{Appends, Keeps}
use Rattle.rio_chars.specs.Faults.{Rose}
use Rattle.rio_chars.specs.Fronts.{AppendsFront}

-- By what the sink tells before and after, with its count of faults: the bytes were written, or a
-- front of them where the write failed, and nothing if one had failed before. The second flag says
-- whether one has failed since.
abbrev pub WritesUnless : Bool → Option (List ℕ) → ℕ → Bool → Option (List ℕ) → ℕ → List ℕ → Type 0
WritesUnless true old count true new count_after bytes = Keeps old new × (count_after ≡ count)
WritesUnless true old count false new count_after bytes = ⊥
WritesUnless false old count true new count_after bytes =
    AppendsFront old new bytes × Rose count count_after × (count ≤ count_after)
WritesUnless false old count false new count_after bytes =
    Appends old new bytes × (count_after ≡ count)
