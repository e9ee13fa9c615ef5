-- Which lines were read, and what is so of them.
use Rattle.std.specs.Prelude.{◌≡◌, ◌≢◌, ℕ, ◌+◌, ◌-◌, ◌<◌, ◌^◌, ◌⊎◌, Bool, true, false, codes, List, [], ◌∷◌, ◌++◌, All, length, take, Option, Some, None, Result, Ok, Err}
use Rattle.std.specs.List.{flat_map}
use Rattle.std.specs.Io.KnownBytes.{Consumes, IsAtEnd}
use Rattle.rio_chars.specs.Faults.{Rose}
use Rattle.rio_chars.specs.Fronts.{AppendsFront}
use Rattle.rio_chars.specs.Written.{Outgoing, Writes}
use Rattle.fabric_script.specs.declared.scripts.Refusal.{Refusal}
use Rattle.fabric_script.specs.Known.{of_set_up}
use Rattle.fabric_script.specs.Scripts.{RefusedIn}
use Rattle.fabric_script.specs.SetUps.{SetUpLines}
use Rattle.live_lines.specs.declared.input.LineEnd.{LineEnd}
use Rattle.live_lines.specs.declared.input.LineEnd.TheVariants as L
use Rattle.live_lines.specs.Lines.{IsLine, HasNoFeed, LinesStop, with_feed, most_line}
use Rattle.live_lines.specs.Serving.{WritesAll}
use Rattle.trace_check.specs.declared.checker.Checker.{Checker}
use Rattle.trace_check.specs.declared.checking.Unlawful.{Unlawful}
use Rattle.trace_check.specs.declared.expecting.Expected.{Expected}
use Rattle.trace_check.specs.Lawful.{IsLawful}
use Rattle.trace_check.specs.SoFar.{IsLawfulSoFar}
use Rattle.trace_check.specs.Starting.{net_of}
use Rattle.trace_check.specs.Taken.{HasTakenLines, IsHitAt, IsHitIn, IsSetUpOf}
use Rattle.trace_check.specs.Told.{IsToldAt, IsToldIn}
use Rattle.follow_lines.specs.declared.ends.FollowEnd.{FollowEnd}
use Rattle.follow_lines.specs.declared.ends.FollowEnd.TheVariants as F
use Rattle.follow_lines.specs.declared.setting.SetUpRead.{SetUpRead}
use Rattle.follow_lines.specs.FollowEnds.{end_of_verdict}
use Rattle.follow_lines.specs.Telling.{ok_text, oks_text, verdict_line_text}

-- ---- what was read

-- These lines were read, each with its line feed, and these bytes behind them. The first bytes were
-- pending, and all others came from the source.
pub record ReadsLines (pending : List ℕ) (left left_after : Option (List ℕ))
    (lines : List (List ℕ)) (behind : List ℕ) : Type 0 where
  pub are_lines : All (λ line. IsLine line) lines
  pub taken : List ℕ
  pub read : Consumes left left_after taken
  pub bytes : pending ++ taken ≡ flat_map with_feed lines ++ behind

-- no further line comes
abbrev pub InputHasEnded : Option (List ℕ) → List ℕ → Type 0
InputHasEnded left behind = IsAtEnd left × HasNoFeed behind

-- why nothing more was read: a trace is lawful only at the end of input
abbrev pub ReadingStops : Result ℕ FollowEnd → Option (List ℕ) → ℕ → ℕ → List ℕ → Type 0
ReadingStops (Ok steps) left faults faults_after behind =
    (faults_after ≡ faults) × InputHasEnded left behind
ReadingStops (Err F.ReadFault) left faults faults_after behind =
    Rose faults faults_after × HasNoFeed behind
ReadingStops (Err F.LineTooLong) left faults faults_after behind = (faults_after ≡ faults)
    × (most_line < length behind) × HasNoFeed (take (most_line + 1) behind)
ReadingStops (Err end) left faults faults_after behind = faults_after ≡ faults

-- ---- what is so of the lines of a trace

abbrev pub AreLawfulSoFar : SetUpLines → List (List ℕ) → Type 0
AreLawfulSoFar set_up texts = IsLawfulSoFar set_up.known (net_of set_up) texts

-- The lines before the last are lawful so far, and a reason hits the last, or the one before it if
-- that edits a wire: this line and this reason, whatever more may come; and this would have been
-- lawful there. `ok` is told of the lines before the last.
pub record LastIsHit (set_up : SetUpLines) (tell : Bool) (texts : List (List ℕ)) (told : List ℕ)
    (hit : Unlawful) (expected : Option Expected) : Type 0 where
  pub front : List (List ℕ)
  pub last : List ℕ
  pub split : texts ≡ front ++ last ∷ []
  pub so_far : AreLawfulSoFar set_up front
  pub hits : IsHitIn set_up texts hit
  pub explained : IsToldIn set_up texts hit expected
  pub told_is : told ≡ oks_text tell front

-- No further line comes, and all are lawful so far. A reason hits the line that does not come, or
-- the last one if that edits a wire; and this would have been lawful there.
pub record EndIsHit (set_up : SetUpLines) (tell : Bool) (texts : List (List ℕ)) (told : List ℕ)
    (left : Option (List ℕ)) (behind : List ℕ) (hit : Unlawful) (expected : Option Expected)
    : Type 0 where
  pub ended : InputHasEnded left behind
  pub so_far : AreLawfulSoFar set_up texts
  pub hits : IsHitAt set_up texts hit
  pub explained : IsToldAt set_up texts hit expected
  pub told_is : told ≡ oks_text tell texts

-- Of lines of a trace behind so many others a reason hits this one, and this would have been lawful
-- there.
pub record TraceIsHit (set_up : SetUpLines) (before : ℕ) (tell : Bool) (texts : List (List ℕ))
    (told : List ℕ) (left : Option (List ℕ)) (behind : List ℕ) (line reason : ℕ)
    (expected : Option Expected) : Type 0 where
  pub hit : Unlawful
  pub line_is : line ≡ before + hit.line
  pub reason_is : reason ≡ hit.reason
  pub hits : LastIsHit set_up tell texts told hit expected
      ⊎ EndIsHit set_up tell texts told left behind hit expected

-- all that were read are lawful so far, and `ok` is told of each
abbrev pub AreFollowed : SetUpLines → Bool → List (List ℕ) → List ℕ → Type 0
AreFollowed set_up tell texts told =
    AreLawfulSoFar set_up texts × (told ≡ oks_text tell texts)

-- What is so of lines of a trace, behind so many others, with this verdict; what would have been
-- lawful at the line of a verdict that is not; and what was told of them before it.
abbrev pub TraceSays : SetUpLines → ℕ → Bool → Result ℕ FollowEnd → Option Expected
    → List (List ℕ) → List ℕ → Option (List ℕ) → List ℕ → Type 0
TraceSays set_up before tell (Ok steps) expected texts told left behind =
    IsLawful set_up.known (net_of set_up) texts steps × (told ≡ oks_text tell texts)
TraceSays set_up before tell (Err (F.Unlawful line reason)) expected texts told left behind =
    TraceIsHit set_up before tell texts told left behind line reason expected
TraceSays set_up before tell (Err F.ReadFault) expected texts told left behind =
    AreFollowed set_up tell texts told
TraceSays set_up before tell (Err F.WriteFault) expected texts told left behind =
    AreFollowed set_up tell texts told
TraceSays set_up before tell (Err F.NoMemory) expected texts told left behind =
    AreFollowed set_up tell texts told
TraceSays set_up before tell (Err F.LineTooLong) expected texts told left behind =
    AreFollowed set_up tell texts told
TraceSays set_up before tell (Err F.TooManyLines) expected texts told left behind =
    AreFollowed set_up tell texts told × (length texts ≡ 2 ^ 32 - 1)
TraceSays set_up before tell (Err end) expected texts told left behind = ⊥

-- an outbox whose text was written, unless the verdict is that a write failed
abbrev pub IsWritten : Result ℕ FollowEnd → Outgoing → Type 0
IsWritten (Err F.WriteFault) out = out.failed ≡ true
IsWritten verdict out = (out.failed ≡ false) × (out.waiting ≡ [])

-- Behind so many lines, lines of a trace were read, and this is so of them with this verdict.
pub record FollowsTrace (set_up : SetUpLines) (before : ℕ) (tell : Bool)
    (verdict : Result ℕ FollowEnd) (expected : Option Expected) (pending : List ℕ)
    (left left_after : Option (List ℕ)) (faults faults_after : ℕ) (out out_after : Outgoing)
    : Type 0 where
  pub texts : List (List ℕ)
  pub behind : List ℕ
  pub told : List ℕ
  pub reads : ReadsLines pending left left_after texts behind
  pub stops : ReadingStops verdict left_after faults faults_after behind
  pub says : TraceSays set_up before tell verdict expected texts told left_after behind
  pub writes : Writes out out_after told
  pub is_written : IsWritten verdict out_after

-- What is so of lines that a checker has taken, if no further line comes.
pub record EndJudged (before : ℕ) (checker : Checker) (end : LineEnd)
    (verdict : Result ℕ FollowEnd) (expected : Option Expected) : Type 0 where
  pub says : (tell : Bool) (texts : List (List ℕ)) (left : Option (List ℕ))
      (faults faults_after : ℕ) (behind : List ℕ) → HasTakenLines texts checker
      → LinesStop end left faults faults_after behind
      → TraceSays checker.set_up before tell verdict expected texts (oks_text tell texts) left
      behind
      × ReadingStops verdict left faults faults_after behind
  pub is_written : (out : Outgoing) → out.failed ≡ false → out.waiting ≡ []
      → IsWritten verdict out

-- ---- what is so of all lines

-- none of the lines is that between the set-up lines and the trace
abbrev pub NoneParts : List (List ℕ) → Type 0
NoneParts lines = All (λ line. line ≢ codes "---") lines

-- lines as bytes, each with its line feed
abbrev pub lines_bytes : List (List ℕ) → List ℕ
lines_bytes lines = flat_map with_feed lines

-- These are the lines before a line between, which is the last; or no line is, and no further line
-- comes.
abbrev pub StandBefore : Bool → List (List ℕ) → List (List ℕ) → Option (List ℕ) → List ℕ → Type 0
StandBefore true lines before left behind = lines ≡ before ++ codes "---" ∷ []
StandBefore false lines before left behind = (lines ≡ before) × InputHasEnded left behind

-- A reason hits the set-up lines, whether a line between stands behind them or not; or none does,
-- and no line between comes, which is told at the line after the last.
pub record IsRefusedSetUp (lines : List (List ℕ)) (left : Option (List ℕ)) (behind : List ℕ)
    (refusal : Refusal) : Type 0 where
  pub before : List (List ℕ)
  pub parted : Bool
  pub none_parts : NoneParts before
  pub stand : StandBefore parted lines before left behind
  pub refused : RefusedIn of_set_up (lines_bytes before) refusal.line refusal.reason
      ⊎ ((parted ≡ false) × ((set_up : SetUpLines) × IsSetUpOf (lines_bytes before) set_up)
      × (refusal ≡ record { line = length before + 1; reason = 15 }))

-- why no check is made behind set-up lines of these bytes
abbrev pub AreRefused : List ℕ → FollowEnd → Type 0
AreRefused script (F.Refused refusal) = RefusedIn of_set_up script refusal.line refusal.reason
AreRefused script F.NoMemory = Unit {0}
AreRefused script end = ⊥

-- What is so of set-up lines behind which no trace was read.
abbrev pub SetUpSays : Result ℕ FollowEnd → List (List ℕ) → Option (List ℕ) → List ℕ → Type 0
SetUpSays (Err (F.Refused refusal)) lines left behind = IsRefusedSetUp lines left behind refusal
SetUpSays (Err F.SetUpTooLong) lines left behind =
    NoneParts lines × (most_line < length (lines_bytes lines))
SetUpSays (Err F.ReadFault) lines left behind = NoneParts lines
SetUpSays (Err F.NoMemory) lines left behind = Unit {0}
SetUpSays (Err F.LineTooLong) lines left behind = NoneParts lines
SetUpSays verdict lines left behind = ⊥

-- The lines are set-up lines that no reason hits, a line `---`, and lines of a trace.
pub record PartsTrace (lines before : List (List ℕ)) (set_up : SetUpLines)
    (texts : List (List ℕ)) : Type 0 where
  pub split : lines ≡ before ++ codes "---" ∷ texts
  pub none_parts : NoneParts before
  pub is_set_up : IsSetUpOf (lines_bytes before) set_up

-- This is so of the lines of a trace behind set-up lines. `ok` is told of the line between, and
-- this text behind it.
pub record TraceFollowed (tell : Bool) (verdict : Result ℕ FollowEnd)
    (expected : Option Expected) (lines : List (List ℕ)) (told : List ℕ)
    (left : Option (List ℕ)) (behind : List ℕ) : Type 0 where
  pub before : List (List ℕ)
  pub set_up : SetUpLines
  pub texts : List (List ℕ)
  pub parts : PartsTrace lines before set_up texts
  pub more : List ℕ
  pub told_is : told ≡ ok_text tell ++ more
  pub says : TraceSays set_up (length before + 1) tell verdict expected texts more left behind

-- what is so of all lines that were read, and what was told of them before the verdict
abbrev pub LinesSay : Bool → Result ℕ FollowEnd → Option Expected → List (List ℕ) → List ℕ
    → Option (List ℕ) → List ℕ → Type 0
LinesSay tell verdict expected lines told left behind =
    ((told ≡ []) × SetUpSays verdict lines left behind)
    ⊎ TraceFollowed tell verdict expected lines told left behind

-- So many set-up lines were read, and their bytes are these.
pub record AreSetUpRead (read : SetUpRead) (script : List ℕ) (lines : List (List ℕ))
    (pending : List ℕ) (left : Option (List ℕ)) (behind : List ℕ) : Type 0 where
  pub before : List (List ℕ)
  pub none_parts : NoneParts before
  pub count : read.lines ≡ length before
  pub script_is : script ≡ lines_bytes before
  pub stand : StandBefore read.parted lines before left behind
  pub next : read.parted ≡ true → behind ≡ pending

-- the same, or why not all of them were
abbrev pub SetUpReadSays : Result SetUpRead FollowEnd → List ℕ → List (List ℕ) → List ℕ
    → Option (List ℕ) → ℕ → ℕ → List ℕ → Type 0
SetUpReadSays (Ok read) script lines pending left faults faults_after behind =
    AreSetUpRead read script lines pending left behind × (faults_after ≡ faults)
SetUpReadSays (Err end) script lines pending left faults faults_after behind =
    SetUpSays (Err end) lines left behind × ReadingStops (Err end) left faults faults_after behind

-- Set-up lines were read, and this is so of them.
pub record ReadsSetUp (read : Result SetUpRead FollowEnd) (script pending pending_after : List ℕ)
    (left left_after : Option (List ℕ)) (faults faults_after : ℕ) : Type 0 where
  pub lines : List (List ℕ)
  pub behind : List ℕ
  pub reads : ReadsLines pending left left_after lines behind
  pub says : SetUpReadSays read script lines pending_after left_after faults faults_after behind

-- what was read, if no further line comes
abbrev pub set_up_ended : ℕ → LineEnd → Result SetUpRead FollowEnd
set_up_ended lines L.End = Ok (record { lines = lines; parted = false })
set_up_ended lines L.Fault = Err F.ReadFault
set_up_ended lines L.TooLong = Err F.LineTooLong
set_up_ended lines L.NoMemory = Err F.NoMemory

-- All lines of the input were read, up to the verdict, and this is so of them.
pub record FollowsInput (tell : Bool) (verdict : Result ℕ FollowEnd) (expected : Option Expected)
    (left left_after : Option (List ℕ)) (faults faults_after : ℕ) (out out_after : Outgoing)
    : Type 0 where
  pub lines : List (List ℕ)
  pub behind : List ℕ
  pub told : List ℕ
  pub reads : ReadsLines [] left left_after lines behind
  pub stops : ReadingStops verdict left_after faults faults_after behind
  pub says : LinesSay tell verdict expected lines told left_after behind
  pub writes : Writes out out_after told
  pub is_written : IsWritten verdict out_after

-- ---- what the program does with its input

-- the verdict is told, or memory for it was not given
abbrev pub TellsVerdict : Result ℕ FollowEnd → FollowEnd → List ℕ → Type 0
TellsVerdict verdict end text = (text ≡ verdict_line_text verdict)
    ⊎ ((text ≡ []) × ((end ≡ F.NoMemory) ⊎ (end ≡ F.WriteFault)))

-- all of a text was written, or a front of it if a write failed
abbrev pub WritesToEnd : FollowEnd → Option (List ℕ) → Option (List ℕ) → ℕ → ℕ → List ℕ → Type 0
WritesToEnd F.WriteFault written written_after faults faults_after text =
    AppendsFront written written_after text × Rose faults faults_after
WritesToEnd end written written_after faults faults_after text =
    WritesAll written written_after faults faults_after text

-- an outbox whose text was written with this verdict, by how it ended
pub record HasWritten (verdict : Result ℕ FollowEnd) (end : FollowEnd) (out : Outgoing) : Type 0
  where
    pub empty : out.waiting ≡ []
    pub fault : out.failed ≡ true → end ≡ F.WriteFault
    pub fine : out.failed ≡ false → (end ≡ end_of_verdict verdict) ⊎ (end ≡ F.NoMemory)

-- what a checker tells would have been lawful at the line that it refused
abbrev pub expected_by : Option Checker → Option Expected
expected_by None = None
expected_by (Some checker) = checker.expected

-- Lines were read, and this is so of them; and this would have been lawful at the line that is not.
-- What was told of them was written.
pub record FollowsAll (tell : Bool) (end : FollowEnd) (expected : Option Expected)
    (left left_after : Option (List ℕ)) (read_faults read_faults_after : ℕ)
    (written written_after : Option (List ℕ)) (write_faults write_faults_after : ℕ)
    : Type 0 where
  pub verdict : Result ℕ FollowEnd
  pub lines : List (List ℕ)
  pub behind : List ℕ
  pub told : List ℕ
  pub last : List ℕ
  pub reads : ReadsLines [] left left_after lines behind
  pub stops : ReadingStops verdict left_after read_faults read_faults_after behind
  pub says : LinesSay tell verdict expected lines told left_after behind
  pub tells : TellsVerdict verdict end last
  pub writes : WritesToEnd end written written_after write_faults write_faults_after (told ++ last)
  pub ends : (end ≡ end_of_verdict verdict) ⊎ ((end ≡ F.WriteFault) ⊎ (end ≡ F.NoMemory))
