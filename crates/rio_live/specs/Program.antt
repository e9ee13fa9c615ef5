-- What the whole program does.
use Rattle.std.specs.Prelude.{◌≡◌, ◌≢◌, ◌⊎◌, ◌+◌, ◌-◌, ◌^◌, ℕ, List, [], ◌++◌, length, Option, Some, Bool, false, codes}
use Rattle.std.specs.Io.KnownBytes.{Keeps}
use Rattle.rio_chars.specs.Unless.{WritesUnless}
use Rattle.fabric_trace.specs.Known.{UndetectedAt}
use Rattle.live_lines.specs.declared.status.LiveStatus.{LiveStatus}
use Rattle.live_lines.specs.declared.status.LiveStatus.TheVariants.{Done, Words, ReadFault, WriteFault, NoMemory, Undetected, TooLong}
use Rattle.live_lines.specs.Lines.{IsLine, with_feed}
use Rattle.live_lines.specs.Serving.{ServesLines}
use Rattle.live_lines.specs.Statuses.{status_value, message_of}
use Rattle.live_fabric.specs.Lines.{seen_so_far, IsSent}
use Rattle.live_fabric.specs.Sessions.{SessionHeld, nothing_held, AnswersSession, IsSessionFront}
use Rattle.live_fabric.specs.Holding.{IsTrace}
use Rattle.program_start.specs.Questions.{AsksNoQuestion}
use Rattle.live_lines.specs.Asked.{AnswersQuestion}

-- the bytes that were read begin with this line, and the text is a front of its answer
pub record CutAt (held : SessionHeld) (number : ℕ) (behind text : List ℕ) : Type 0 where
  pub line : List ℕ
  pub rest : List ℕ
  pub is_line : IsLine line
  pub first : behind ≡ with_feed line ++ rest
  pub front : IsSessionFront held number line text

-- The text is a front of the answer of the line that was read next, which has this number, or
-- nothing. These are the bytes that were read behind the last line that is answered.
abbrev pub IsFurtherFront : SessionHeld → ℕ → List ℕ → List ℕ → Type 0
IsFurtherFront held number behind text =
    IsSent held.taken × ((text ≡ []) ⊎ CutAt held number behind text)

-- What is written behind the answers, by how it ended: `end` if the input ended, and if memory ran
-- out within an event, a front of its answer. It ends with `Undetected` exactly behind an event
-- that was acted on and not sent.
abbrev pub Closes : LiveStatus → SessionHeld → ℕ → List ℕ → List ℕ → Type 0
Closes Done held number behind text = IsSent held.taken × (text ≡ codes "end\n")
Closes Words held number behind text = ⊥
Closes ReadFault held number behind text = IsSent held.taken × (text ≡ [])
Closes TooLong held number behind text = IsSent held.taken × (text ≡ [])
Closes Undetected held number behind text =
    ((found : UndetectedAt) × ((seen_so_far held.taken).undetected ≡ Some found)) × (text ≡ [])
Closes NoMemory held number behind text = IsFurtherFront held number behind text
Closes WriteFault held number behind text =
    (text ≡ []) ⊎ ((text ≡ codes "end\n") ⊎ IsFurtherFront held number behind text)

-- Lines were served: those that were read, each behind the one before it, up to where it ended.
-- What was written is their answers, and what is written behind them. The blocks of the events are
-- the trace of the lines that were taken; an answer leaves out what its session does.
pub record LiveServes (status : LiveStatus) (left left_after : Option (List ℕ))
    (read_faults read_faults_after : ℕ) (written written_after : Option (List ℕ))
    (write_faults write_faults_after : ℕ) : Type 0 where
  pub lines : List (List ℕ)
  pub text : List ℕ
  pub held : SessionHeld
  pub last : List ℕ
  pub answers : AnswersSession nothing_held 1 lines text held
  pub trace : IsTrace held.taken
  pub serves : ServesLines (2 ^ 32 - 1) status left left_after read_faults read_faults_after
      written written_after write_faults write_faults_after lines (text ++ last)
  pub closes : Closes status held (length lines + 1) serves.behind last

-- how the program is used, in a line and on several
abbrev pub live_usage : List ℕ
live_usage = codes "usage: rio_live, with no words\n"

abbrev pub live_help : List ℕ
live_help = codes "usage: rio_live < LINES\n\n"
    ++ codes "Each line is answered before the next is read. An answer ends with the line ok.\n\n"
    ++ codes "endpoint, switch, link and such   set a fabric up\n"
    ++ codes "send, pump, settle and such       are events, told as rio replay tells them\n"
    ++ codes "quiet and loud                    leave characters out of answers, or not\n"
    ++ codes "serve NODE and serve all          let endpoints answer in each round of a run\n"
    ++ codes "ask LINE                          carries out a request until its response leaves\n"
    ++ codes "standard NODE and standard all    let devices show what standard hosts look for\n"
    ++ codes "external NODE.P PORT              has PORT stand beside a device outside\n"
    ++ codes "sent NODE.P CHARS                 is what that device sends\n\n"
    ++ codes "docs/live.md says what is answered, and man rio has the lines.\n"

-- nothing was read
abbrev pub ReadsNothing : Option (List ℕ) → Option (List ℕ) → ℕ → ℕ → Type 0
ReadsNothing left left_after read_faults read_faults_after =
    Keeps left left_after × (read_faults_after ≡ read_faults)

-- There are no words, and lines were served; or they ask a question, and it was answered; or they
-- say nothing, and nothing was read or written.
abbrev pub LiveDid : List (List ℕ) → LiveStatus → Option (List ℕ) → Option (List ℕ) → ℕ → ℕ
    → Option (List ℕ) → Option (List ℕ) → ℕ → ℕ → Type 0
LiveDid words status left left_after read_faults read_faults_after written written_after
    write_faults write_faults_after =
    ((words ≡ []) × LiveServes status left left_after read_faults read_faults_after written
    written_after write_faults write_faults_after)
    ⊎ ((AnswersQuestion (codes "rio_live") live_help words status written written_after write_faults
    write_faults_after
    × ReadsNothing left left_after read_faults read_faults_after)
    ⊎ ((words ≢ []) × AsksNoQuestion words × (status ≡ Words)
    × Keeps written written_after × (write_faults_after ≡ write_faults)
    × ReadsNothing left left_after read_faults read_faults_after))

-- It ends with the number of a status, and said of it what there is to say, or a front of that
-- where a write of it failed.
pub record LiveRan {S : Type 0} {K : Type 0} {M : Type 0} (words : List (List ℕ)) (number : ℕ)
    (left : S → Option (List ℕ)) (read_faults : S → ℕ) (source source_after : S)
    (written : K → Option (List ℕ)) (write_faults : K → ℕ) (sink sink_after : K)
    (said : M → Option (List ℕ)) (say_faults : M → ℕ) (messages messages_after : M) : Type 0 where
  pub status : LiveStatus
  pub did : LiveDid words status (left source) (left source_after) (read_faults source)
      (read_faults source_after) (written sink) (written sink_after) (write_faults sink)
      (write_faults sink_after)
  pub number_is : number ≡ status_value status
  pub failed : Bool
  pub says : WritesUnless false (said messages) (say_faults messages) failed (said messages_after)
      (say_faults messages_after) (message_of (codes "rio_live: ") live_usage status)
