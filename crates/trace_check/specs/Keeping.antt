-- What the lines behind a line may say of it.
use Rattle.std.specs.Prelude.{◌≡◌, ℕ, Bool, List}
use Rattle.trace_lines.specs.Lines.{Begun, TraceLine}
use Rattle.trace_check.specs.Lawful.{as_behind}
use Rattle.trace_check.specs.Wires.{are_short}

-- what is said of a wire that is too short is what the texts behind an event line say
abbrev pub LooksAt : TraceLine → Bool → List (List ℕ) → Type 0
LooksAt (Begun line) short rest = short ≡ are_short (as_behind rest)
LooksAt line short rest = Unit {0}
