-- What is told of the lines of a trace, of which the first has a number.
use Rattle.std.specs.Prelude.{◌≡◌, ℕ, ◌+◌, List, Option, Some, IfSome, IsSome}
use Rattle.fabric_script.specs.Known.{Known}
use Rattle.fabric_model.specs.Network.{Network}
use Rattle.trace_check.specs.declared.checking.Unlawful.{Unlawful as Hit}
use Rattle.trace_check.specs.declared.expecting.Expected.{Expected}
use Rattle.trace_check.specs.declared.reading.Verdict.{Verdict}
use Rattle.trace_check.specs.declared.reading.Verdict.TheVariants.{Lawful, Unlawful}
use Rattle.trace_check.specs.Expecting.{IsExpected, IsExplained}
use Rattle.trace_check.specs.Lawful.{IsLawful, IsUnlawful}

-- the line with this number is the first that a reason hits, and this is the least
abbrev pub StopsAt : Known → Network → List (List ℕ) → (first line reason : ℕ) → Type 0
StopsAt known net texts first line reason =
    (place : ℕ) × (line ≡ first + place) × IsUnlawful known net texts place reason

-- this would have been lawful at the line with this number
abbrev pub ExpectedAt : Known → Network → List (List ℕ) → (first line : ℕ) → Expected → Type 0
ExpectedAt known net texts first line expected =
    (place : ℕ) × (line ≡ first + place) × IsExpected known net texts place expected

-- This line is the first that a reason hits, with the least reason that hits it. What is told of it
-- is so, and is told only if this line is asked for; and if it is, something is told of each reason
-- that can be explained.
pub record IsStop (known : Known) (net : Network) (texts : List (List ℕ)) (first : ℕ)
    (asked : Option ℕ) (hit : Hit) (expected : Option Expected) : Type 0 where
  pub stops : StopsAt known net texts first hit.line hit.reason
  pub told : IfSome expected
      (λ e. (asked ≡ Some hit.line) × ExpectedAt known net texts first hit.line e)
  pub some : asked ≡ Some hit.line → IsExplained hit.reason → IsSome expected

-- the lines are lawful, and so many are steps, or this one is the first that is not
abbrev pub IsVerdict : Known → Network → List (List ℕ) → ℕ → Option ℕ → Verdict → Type 0
IsVerdict known net texts first asked (Lawful steps) = IsLawful known net texts steps
IsVerdict known net texts first asked (Unlawful hit expected) =
    IsStop known net texts first asked hit expected
