-- What a checker tells of the line that a reason hits.
use Rattle.std.specs.Prelude.{◌≡◌, ℕ, ◌+◌, List, ◌∷◌, ◌++◌, length, Option, IfSome, IsSome}
use Rattle.fabric_script.specs.SetUps.{SetUpLines}
use Rattle.trace_lines.specs.Lines.{TraceLine}
use Rattle.trace_lines.specs.Words.{SpellsLine}
use Rattle.trace_check.specs.declared.checking.Unlawful.{Unlawful}
use Rattle.trace_check.specs.declared.expecting.Expected.{Expected}
use Rattle.trace_check.specs.declared.reader.Reader.{Reader}
use Rattle.trace_check.specs.Expecting.{IsExpected, IsExplained}
use Rattle.trace_check.specs.Starting.{net_of}
use Rattle.trace_check.specs.Taken.{AreReadBy}

-- What is told would have been lawful at this place of the texts; and something is told of each
-- reason that can be explained.
pub record IsToldThere (set_up : SetUpLines) (texts : List (List ℕ)) (place reason : ℕ)
    (expected : Option Expected) : Type 0 where
  pub told : IfSome expected (IsExpected set_up.known (net_of set_up) texts place)
  pub some : IsExplained reason → IsSome expected

-- so it is at the line with this number, counted from 1
abbrev pub IsToldAt : SetUpLines → List (List ℕ) → Unlawful → Option Expected → Type 0
IsToldAt set_up texts hit expected =
    (place : ℕ) × (hit.line ≡ place + 1) × IsToldThere set_up texts place hit.reason expected

-- whatever may stand behind the texts
abbrev pub IsToldIn : SetUpLines → List (List ℕ) → Unlawful → Option Expected → Type 0
IsToldIn set_up texts hit expected =
    (rest : List (List ℕ)) → IsToldAt set_up (texts ++ rest) hit expected

-- it is told of a text behind others
abbrev pub IsToldNext : SetUpLines → List (List ℕ) → List ℕ → ℕ → Option Expected → Type 0
IsToldNext set_up texts text reason expected = (rest : List (List ℕ))
    → IsToldThere set_up (texts ++ text ∷ rest) (length texts) reason expected

-- of a line that a text spells, behind texts that are read
abbrev pub LineIsTold : SetUpLines → Reader → TraceLine → ℕ → Option Expected → Type 0
LineIsTold set_up old line reason expected = (texts rest : List (List ℕ)) (text : List ℕ)
    → SpellsLine set_up.known text line → AreReadBy set_up old texts (text ∷ rest)
    → IsToldThere set_up (texts ++ text ∷ rest) (length texts) reason expected
