-- Which lines were read while reactions are judged, and what is so of them.
use Rattle.std.specs.Prelude.{◌≡◌, ℕ, ◌+◌, ◌-◌, ◌^◌, ◌⊎◌, codes, List, [], ◌∷◌, ◌++◌, length, Option, Result, Ok, Err}
use Rattle.std.specs.Fmt.{decimal}
use Rattle.fabric_script.specs.SetUps.{SetUpLines}
use Rattle.live_lines.specs.declared.input.LineEnd.{LineEnd}
use Rattle.live_lines.specs.Lines.{LinesStop}
use Rattle.trace_reactions.specs.declared.all_ports.WrongReaction.{WrongReaction}
use Rattle.trace_reactions.specs.declared.judge.Judge.{Judge}
use Rattle.trace_reactions.specs.Judged.{AreAnswered, AreAllAnswered, HasJudged, IsNoLine, IsWrongText}
use Rattle.trace_reactions.specs.Judging.{ReactionsKept}
use Rattle.follow_lines.specs.declared.ends.FollowEnd.{FollowEnd}
use Rattle.follow_lines.specs.declared.ends.FollowEnd.TheVariants as F
use Rattle.follow_lines.specs.FollowEnds.{end_of_verdict}
use Rattle.follow_lines.specs.Following.{PartsTrace, ReadingStops, ReadsLines, SetUpSays, WritesToEnd}
use Rattle.follow_lines.specs.Telling.{end_line_text}

-- ---- what is so of the lines of a trace

-- the lines pass
abbrev pub DoReact : SetUpLines → List (List ℕ) → Type 0
DoReact set_up texts = (kept : ReactionsKept) × AreAnswered set_up texts kept

-- Of the texts the last is no line of a trace, and those before it pass.
pub record LastIsNoLine (set_up : SetUpLines) (texts : List (List ℕ)) : Type 0 where
  pub front : List (List ℕ)
  pub last : List ℕ
  pub split : texts ≡ front ++ last ∷ []
  pub react : DoReact set_up front
  pub no_line : IsNoLine set_up last

-- Of the texts the last has this reaction, which was not due, and those before it pass.
pub record LastIsWrong (set_up : SetUpLines) (texts : List (List ℕ)) (wrong : WrongReaction) :
    Type 0 where
  pub front : List (List ℕ)
  pub last : List ℕ
  pub split : texts ≡ front ++ last ∷ []
  pub is_wrong : IsWrongText set_up front last wrong

-- What is so of lines of a trace, behind so many others, with this verdict.
abbrev pub TraceReacts : SetUpLines → ℕ → Result ℕ FollowEnd → List (List ℕ) → Type 0
TraceReacts set_up before (Ok count) texts = AreAllAnswered set_up texts count
TraceReacts set_up before (Err (F.Wrong line wrong)) texts =
    (line ≡ before + length texts) × LastIsWrong set_up texts wrong
TraceReacts set_up before (Err (F.Unlawful line reason)) texts =
    (line ≡ before + length texts) × (reason ≡ 21) × LastIsNoLine set_up texts
TraceReacts set_up before (Err F.ReadFault) texts = DoReact set_up texts
TraceReacts set_up before (Err F.NoMemory) texts = DoReact set_up texts
TraceReacts set_up before (Err F.LineTooLong) texts = DoReact set_up texts
TraceReacts set_up before (Err F.TooManyLines) texts =
    DoReact set_up texts × (length texts ≡ 2 ^ 32 - 1)
TraceReacts set_up before (Err end) texts = ⊥

-- Behind so many lines, lines of a trace were read, and this is so of them with this verdict.
pub record JudgesTrace (set_up : SetUpLines) (before : ℕ) (verdict : Result ℕ FollowEnd)
    (pending : List ℕ) (left left_after : Option (List ℕ)) (faults faults_after : ℕ) : Type 0
  where
    pub texts : List (List ℕ)
    pub behind : List ℕ
    pub reads : ReadsLines pending left left_after texts behind
    pub stops : ReadingStops verdict left_after faults faults_after behind
    pub says : TraceReacts set_up before verdict texts

-- What is so of lines that a judge has taken, if no further line comes.
pub record EndReacts (judge : Judge) (end : LineEnd) (verdict : Result ℕ FollowEnd) : Type 0 where
  pub says : (before : ℕ) (texts : List (List ℕ)) (left : Option (List ℕ))
      (faults faults_after : ℕ) (behind : List ℕ) → HasJudged texts judge
      → LinesStop end left faults faults_after behind
      → TraceReacts judge.set_up before verdict texts
      × ReadingStops verdict left faults faults_after behind

-- ---- what is so of all lines

-- This is so of the lines of a trace behind set-up lines.
pub record TraceJudged (verdict : Result ℕ FollowEnd) (lines : List (List ℕ)) : Type 0 where
  pub before : List (List ℕ)
  pub set_up : SetUpLines
  pub texts : List (List ℕ)
  pub parts : PartsTrace lines before set_up texts
  pub says : TraceReacts set_up (length before + 1) verdict texts

-- All lines of the input were read, up to the verdict, and this is so of them.
pub record JudgesInput (verdict : Result ℕ FollowEnd) (left left_after : Option (List ℕ))
    (faults faults_after : ℕ) : Type 0 where
  pub lines : List (List ℕ)
  pub behind : List ℕ
  pub reads : ReadsLines [] left left_after lines behind
  pub stops : ReadingStops verdict left_after faults faults_after behind
  pub says : SetUpSays verdict lines left_after behind ⊎ TraceJudged verdict lines

-- ---- what the program does with its input

-- the line of a verdict, or nothing if there is none
abbrev pub answered_line_text : Result ℕ FollowEnd → List ℕ
answered_line_text (Ok count) = codes "answered " ++ (decimal count ++ codes "\n")
answered_line_text (Err end) = end_line_text end

-- the verdict is told, or memory for it was not given
abbrev pub TellsAnswered : Result ℕ FollowEnd → FollowEnd → List ℕ → Type 0
TellsAnswered verdict end text = (text ≡ answered_line_text verdict)
    ⊎ ((text ≡ []) × ((end ≡ F.NoMemory) ⊎ (end ≡ F.WriteFault)))

-- Lines were read, and this is so of them; and the verdict was written.
pub record JudgesAll (end : FollowEnd) (left left_after : Option (List ℕ))
    (read_faults read_faults_after : ℕ) (written written_after : Option (List ℕ))
    (write_faults write_faults_after : ℕ) : Type 0 where
  pub verdict : Result ℕ FollowEnd
  pub last : List ℕ
  pub judges : JudgesInput verdict left left_after read_faults read_faults_after
  pub tells : TellsAnswered verdict end last
  pub writes : WritesToEnd end written written_after write_faults write_faults_after last
  pub ends : (end ≡ end_of_verdict verdict) ⊎ ((end ≡ F.WriteFault) ⊎ (end ≡ F.NoMemory))
