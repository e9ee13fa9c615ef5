-- Lines, and why there is no further one.
use Rattle.std.specs.Prelude.{◌≡◌, ◌≢◌, ℕ, ◌≤◌, ◌<◌, ◌+◌, List, [], ◌++◌, All, Option, codes, length, take}
use Rattle.std.specs.Io.KnownBytes.{IsAtEnd}
use Rattle.rio_chars.specs.Faults.{Rose}
use Rattle.live_lines.specs.declared.input.LineEnd.{LineEnd}
use Rattle.live_lines.specs.declared.input.LineEnd.TheVariants.{End, Fault, TooLong, NoMemory}

-- the most bytes of a line, without its line feed
abbrev pub most_line : ℕ
most_line = 4194304

abbrev pub HasNoFeed : List ℕ → Type 0
HasNoFeed bytes = All (λ byte. byte ≢ 10) bytes

pub record IsLine (line : List ℕ) : Type 0 where
  pub no_feed : HasNoFeed line
  pub within : length line ≤ most_line

-- a line with its line feed
abbrev pub with_feed : List ℕ → List ℕ
with_feed line = line ++ codes "\n"

-- Why there is no further line, of bytes that were read behind the last line feed.
abbrev pub LinesStop : LineEnd → Option (List ℕ) → ℕ → ℕ → List ℕ → Type 0
LinesStop End left faults faults_after bytes =
    IsAtEnd left × HasNoFeed bytes × (faults_after ≡ faults)
LinesStop Fault left faults faults_after bytes = Rose faults faults_after × HasNoFeed bytes
LinesStop TooLong left faults faults_after bytes =
    (most_line < length bytes) × HasNoFeed (take (most_line + 1) bytes) × (faults_after ≡ faults)
LinesStop NoMemory left faults faults_after bytes = (faults_after ≡ faults) × (bytes ≢ [])
