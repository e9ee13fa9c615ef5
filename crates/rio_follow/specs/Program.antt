-- What the whole program does.
use Rattle.std.specs.Prelude.{◌≡◌, ◌⊎◌, ℕ, List, ◌++◌, Option, Bool, codes, false, if◌then◌else◌}
use Rattle.std.specs.Io.KnownBytes.{Keeps}
use Rattle.rio_chars.specs.Unless.{WritesUnless}
use Rattle.program_start.specs.Questions.{AsksQuestion, AsksNoQuestion, question_text}
use Rattle.program_start.specs.declared.questions.Question.{Question}
use Rattle.trace_check.specs.declared.expecting.Expected.{Expected}
use Rattle.follow_lines.specs.declared.ends.FollowEnd.{FollowEnd}
use Rattle.follow_lines.specs.declared.ends.FollowEnd.TheVariants as F
use Rattle.follow_lines.specs.FollowEnds.{end_value}
use Rattle.follow_lines.specs.Following.{FollowsAll}
use Rattle.rio_follow.specs.declared.request.FollowRequest.{FollowRequest}
use Rattle.follow_lines.specs.Reacting.{JudgesAll}
use Rattle.rio_follow.specs.Asking.{AskFollow, AskReactions}

-- how the program is used, on several lines
abbrev pub follow_help : List ℕ
follow_help = codes "usage: rio_follow [tell] [--report tap] < LINES\n"
    ++ codes "       rio_follow reactions < LINES\n\n"
    ++ codes "Reads set-up lines, a line --- and the lines of a trace, and judges each line\n"
    ++ codes "before the next is read. At the first line that is not lawful it says which and\n"
    ++ codes "why, and ends.\n\n"
    ++ codes "lawful STEPS             the input has ended, and all lines are a lawful trace\n"
    ++ codes "unlawful LINE REASON     this line is not lawful, or it is missing\n"
    ++ codes "refused LINE REASON      the set-up lines are refused\n"
    ++ codes "tell                     and ok for the line --- and for each line behind it\n"
    ++ codes "--report tap             a report on standard error, in place of why\n\n"
    ++ codes "With reactions it judges the acceptances, retries, refusals and link-responses\n"
    ++ codes "that ports send, and not what is lawful.\n\n"
    ++ codes "answered COUNT           the input has ended, and so many were sent, each due\n"
    ++ codes "wrong LINE               this line has one that was not due\n"
    ++ codes "unlawful LINE 21         this line is no line of a trace\n\n"
    ++ codes "docs/checking.md has the reasons, and man rio the lines.\n"

-- A question was answered, or a front of the answer was written since a write failed.
pub record FollowTold (words : List (List ℕ)) (end : FollowEnd)
    (written written_after : Option (List ℕ)) (write_faults write_faults_after : ℕ) : Type 0 where
  pub question : Question
  pub asks : AsksQuestion question words
  pub failed : Bool
  pub told : WritesUnless false written write_faults failed written_after write_faults_after
      (question_text (codes "rio_follow") follow_help question)
  pub ends : end ≡ (if failed then F.WriteFault else F.Done)

-- nothing was read
abbrev pub KeepsInput : Option (List ℕ) → Option (List ℕ) → ℕ → ℕ → Type 0
KeepsInput left left_after read_faults read_faults_after =
    Keeps left left_after × (read_faults_after ≡ read_faults)

-- The words ask that a trace is followed, and it was; or that reactions are judged, and they were;
-- or they ask a question, and it was answered;
-- or they ask for nothing, and nothing was read or written.
abbrev pub FollowDid : List (List ℕ) → FollowEnd → Option (List ℕ) → Option (List ℕ) → ℕ → ℕ
    → Option (List ℕ) → Option (List ℕ) → ℕ → ℕ → Type 0
FollowDid words end left left_after read_faults read_faults_after written written_after
    write_faults write_faults_after =
    ((request : FollowRequest) × AskFollow words request × ((expected : Option Expected)
    × FollowsAll request.tell end expected left left_after read_faults read_faults_after written
    written_after write_faults write_faults_after))
    ⊎ ((AskReactions words × JudgesAll end left left_after read_faults read_faults_after written
    written_after write_faults write_faults_after)
    ⊎ ((FollowTold words end written written_after write_faults write_faults_after
    × KeepsInput left left_after read_faults read_faults_after)
    ⊎ (((request : FollowRequest) → ¬ AskFollow words request) × (¬ AskReactions words)
    × AsksNoQuestion words × (end ≡ F.Words)
    × Keeps written written_after × (write_faults_after ≡ write_faults)
    × KeepsInput left left_after read_faults read_faults_after)))

-- It ends with the number of an end.
pub record FollowRan {S : Type 0} {K : Type 0} (words : List (List ℕ)) (number : ℕ)
    (left : S → Option (List ℕ)) (read_faults : S → ℕ) (source source_after : S)
    (written : K → Option (List ℕ)) (write_faults : K → ℕ) (sink sink_after : K) : Type 0 where
  pub end : FollowEnd
  pub did : FollowDid words end (left source) (left source_after) (read_faults source)
      (read_faults source_after) (written sink) (written sink_after) (write_faults sink)
      (write_faults sink_after)
  pub number_is : number ≡ end_value end
