-- What the whole program does.
use Rattle.std.specs.Prelude.{◌≡◌, ℕ, ◌≤◌, ◌-◌, ◌^◌, ◌⊎◌, List, [], ◌∷◌, ◌++◌, Option, Bool, false, codes, if◌then◌else◌}
use Rattle.std.specs.Fmt.{decimal}
use Rattle.std.specs.Io.KnownBytes.{Keeps}
use Rattle.live_lines.specs.declared.status.LiveStatus.{LiveStatus}
use Rattle.live_lines.specs.declared.status.LiveStatus.TheVariants.{Done, Words, WriteFault}
use Rattle.live_lines.specs.Serving.{ServesLines}
use Rattle.live_lines.specs.Statuses.{status_value}
use Rattle.program_start.specs.Questions.{AsksQuestion, AsksNoQuestion, question_text}
use Rattle.program_start.specs.declared.questions.Question.{Question}
use Rattle.rio_chars.specs.Unless.{WritesUnless}
use Rattle.rio_lane.specs.declared.ends.LaneEnds.{LaneEnds}
use Rattle.rio_lane.specs.declared.ends.LaneTask.{LaneTask}
use Rattle.rio_lane.specs.Tasks.{task_word, task_lanes, new_ends}
use Rattle.rio_lane.specs.LaneAnswers.{LaneAnswer}
use Rattle.rio_lane.specs.LaneLines.{AnswersLanes}

-- a word asks for this task on so many lanes
abbrev pub WordAsks : ℕ → List ℕ → LaneTask → Type 0
WordAsks lanes word task = (word ≡ task_word task) × (task_lanes task ≡ lanes)

abbrev pub FourWordsAsk : List ℕ → List ℕ → List ℕ → LaneTask → Type 0
FourWordsAsk option count word task =
    (option ≡ codes "--lanes") × ((count ≡ codes "4") × WordAsks 4 word task)

-- a word says how many commas a lane wants
abbrev pub SaysCommas : List ℕ → ℕ → Type 0
SaysCommas number commas = (1 ≤ commas) × (commas ≤ 127) × (number ≡ decimal commas)

-- the words after the program's name ask for this task on lanes that want so many commas
abbrev pub AskTask : List (List ℕ) → LaneTask → ℕ → Type 0
AskTask [] task commas = ⊥
AskTask (word ∷ []) task commas = WordAsks 1 word task × (commas ≡ 1)
AskTask (word ∷ number ∷ []) task commas = WordAsks 1 word task × SaysCommas number commas
AskTask (option ∷ count ∷ word ∷ []) task commas =
    FourWordsAsk option count word task × (commas ≡ 1)
AskTask (option ∷ count ∷ word ∷ number ∷ []) task commas =
    FourWordsAsk option count word task × SaysCommas number commas
AskTask (option ∷ count ∷ word ∷ number ∷ more ∷ words) task commas = ⊥

-- how the program is used, on several lines
abbrev pub lane_help : List ℕ
lane_help =
    codes "usage: rio_lane groups|chars|bits|sent|got [COMMAS], or --lanes 4 groups|chars "
    ++ codes "[COMMAS]\n\nEach line is answered before the next is read.\n\n"
    ++ codes "groups   characters: their code groups, with an idle before and after them\n"
    ++ codes "chars    code groups of ten digits: the characters that a lane hears\n"
    ++ codes "bits     digits 0 and 1, cut anywhere: the same, from the first comma on\n"
    ++ codes "sent     lines that begin with sent, as groups; others are passed on\n"
    ++ codes "got      lines that begin with got, as characters; others are passed on\n\n"
    ++ codes "--lanes 4 has groups in rows of four, one of each lane.\n"
    ++ codes "COMMAS, 1 to 127, is how many commas a lane wants before it is in sync, and else 1.\n"
    ++ codes "docs/lanes.md has the rules.\n"

-- From these ends of a lane on, lines were served: those that were read, each after the one before
-- it, up to where it ended. What was written is their answers.
pub record LaneServes (task : LaneTask) (commas : ℕ) (ends : LaneEnds) (status : LiveStatus)
    (left left_after : Option (List ℕ)) (read_faults read_faults_after : ℕ)
    (written written_after : Option (List ℕ)) (write_faults write_faults_after : ℕ) : Type 0 where
  pub lines : List (List ℕ)
  pub answer : LaneAnswer
  pub answers : AnswersLanes task commas ends lines answer
  pub serves : ServesLines (2 ^ 32 - 1) status left left_after read_faults read_faults_after
      written written_after write_faults write_faults_after lines answer.text

-- A question was answered, or a front of the answer was written since a write failed.
pub record LaneTold (words : List (List ℕ)) (status : LiveStatus)
    (written written_after : Option (List ℕ)) (write_faults write_faults_after : ℕ) : Type 0 where
  pub question : Question
  pub asks : AsksQuestion question words
  pub failed : Bool
  pub told : WritesUnless false written write_faults failed written_after write_faults_after
      (question_text (codes "rio_lane") lane_help question)
  pub ends : status ≡ (if failed then WriteFault else Done)

-- nothing was read
abbrev pub ReadsNone : Option (List ℕ) → Option (List ℕ) → ℕ → ℕ → Type 0
ReadsNone left left_after read_faults read_faults_after =
    Keeps left left_after × (read_faults_after ≡ read_faults)

-- The words ask for a task, and lines were served; or they ask a question, and it was answered; or
-- they ask for nothing, and nothing was read or written.
abbrev pub LaneDid : List (List ℕ) → LiveStatus → Option (List ℕ) → Option (List ℕ) → ℕ → ℕ
    → Option (List ℕ) → Option (List ℕ) → ℕ → ℕ → Type 0
LaneDid words status left left_after read_faults read_faults_after written written_after
    write_faults write_faults_after =
    ((task : LaneTask) × (commas : ℕ) × AskTask words task commas
    × LaneServes task commas (new_ends commas) status left left_after read_faults
    read_faults_after written written_after write_faults write_faults_after)
    ⊎ ((LaneTold words status written written_after write_faults write_faults_after
    × ReadsNone left left_after read_faults read_faults_after)
    ⊎ (((task : LaneTask) (commas : ℕ) → ¬ AskTask words task commas) × AsksNoQuestion words
    × (status ≡ Words) × Keeps written written_after × (write_faults_after ≡ write_faults)
    × ReadsNone left left_after read_faults read_faults_after))

-- It ends with the number of a status.
pub record LaneRan {S : Type 0} {K : Type 0} (words : List (List ℕ)) (number : ℕ)
    (left : S → Option (List ℕ)) (read_faults : S → ℕ) (source source_after : S)
    (written : K → Option (List ℕ)) (write_faults : K → ℕ) (sink sink_after : K) : Type 0 where
  pub status : LiveStatus
  pub did : LaneDid words status (left source) (left source_after) (read_faults source)
      (read_faults source_after) (written sink) (written sink_after) (write_faults sink)
      (write_faults sink_after)
  pub number_is : number ≡ status_value status
