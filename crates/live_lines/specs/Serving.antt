-- What a program does that reads lines and writes answers.
use Rattle.std.specs.Prelude.{◌≡◌, ℕ, ◌<◌, ◌+◌, ◌⊎◌, List, ◌++◌, All, Option, length, take}
use Rattle.std.specs.List.{flat_map}
use Rattle.std.specs.Io.KnownBytes.{Consumes, Appends, IsAtEnd}
use Rattle.rio_chars.specs.Faults.{Rose}
use Rattle.rio_chars.specs.Fronts.{AppendsFront}
use Rattle.live_lines.specs.declared.status.LiveStatus.{LiveStatus}
use Rattle.live_lines.specs.declared.status.LiveStatus.TheVariants.{Done, Words, ReadFault, WriteFault, Undetected}
use Rattle.live_lines.specs.declared.status.LiveStatus.TheVariants as ends_with
use Rattle.live_lines.specs.declared.input.LineEnd.{LineEnd}
use Rattle.live_lines.specs.declared.input.LineEnd.TheVariants.{End, Fault, TooLong, NoMemory}
use Rattle.live_lines.specs.Lines.{IsLine, HasNoFeed, with_feed, most_line}

-- how it ends if there is no further line
abbrev pub end_status : LineEnd → LiveStatus
end_status End = Done
end_status Fault = ReadFault
end_status TooLong = ends_with.TooLong
end_status NoMemory = ends_with.NoMemory

-- Why it ended, if so many lines are the most: the bytes were read behind the last line that is
-- answered.
abbrev pub ServingEnds : ℕ → LiveStatus → ℕ → Option (List ℕ) → ℕ → ℕ → List ℕ → Type 0
ServingEnds most Done count left faults faults_after behind = (faults_after ≡ faults)
    × ((IsAtEnd left × HasNoFeed behind) ⊎ (count ≡ most))
ServingEnds most Words count left faults faults_after behind = ⊥
ServingEnds most ReadFault count left faults faults_after behind =
    Rose faults faults_after × HasNoFeed behind
ServingEnds most WriteFault count left faults faults_after behind = faults_after ≡ faults
ServingEnds most ends_with.NoMemory count left faults faults_after behind = faults_after ≡ faults
ServingEnds most Undetected count left faults faults_after behind = faults_after ≡ faults
ServingEnds most ends_with.TooLong count left faults faults_after behind = (faults_after ≡ faults)
    × (most_line < length behind) × HasNoFeed (take (most_line + 1) behind)

-- all of a text was written
abbrev pub WritesAll : Option (List ℕ) → Option (List ℕ) → ℕ → ℕ → List ℕ → Type 0
WritesAll written written_after faults faults_after text =
    Appends written written_after text × (faults_after ≡ faults)

-- What was written: a text, or a front of it if a write failed.
abbrev pub WritesBy : LiveStatus → Option (List ℕ) → Option (List ℕ) → ℕ → ℕ → List ℕ → Type 0
WritesBy WriteFault written written_after faults faults_after text =
    AppendsFront written written_after text × Rose faults faults_after
WritesBy Words written written_after faults faults_after text = ⊥
WritesBy Done written written_after faults faults_after text =
    WritesAll written written_after faults faults_after text
WritesBy ReadFault written written_after faults faults_after text =
    WritesAll written written_after faults faults_after text
WritesBy ends_with.NoMemory written written_after faults faults_after text =
    WritesAll written written_after faults faults_after text
WritesBy Undetected written written_after faults faults_after text =
    WritesAll written written_after faults faults_after text
WritesBy ends_with.TooLong written written_after faults faults_after text =
    WritesAll written written_after faults faults_after text

-- These lines were read, each behind the one before it, up to where it ended, with at most so many
-- of them; and this text was written.
pub record ServesLines (most : ℕ) (status : LiveStatus) (left left_after : Option (List ℕ))
    (read_faults read_faults_after : ℕ) (written written_after : Option (List ℕ))
    (write_faults write_faults_after : ℕ) (lines : List (List ℕ)) (text : List ℕ) : Type 0 where
  pub behind : List ℕ
  pub are_lines : All (λ line. IsLine line) lines
  pub read : Consumes left left_after (flat_map with_feed lines ++ behind)
  pub ends : ServingEnds most status (length lines) left_after read_faults read_faults_after behind
  pub writes : WritesBy status written written_after write_faults write_faults_after text
