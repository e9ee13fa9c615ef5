-- What the whole program does, but for where its words and its streams come from.
use Rattle.std.specs.Prelude.{◌≡◌, ◌≢◌, ◌⊎◌, ℕ, List, Option, Bool, false}
use Rattle.rio_chars.specs.Unless.{WritesUnless}
use Rattle.rio_cli.specs.declared.answer.CommandAnswer.{CommandAnswer}
use Rattle.rio_cli.specs.declared.status.Status.TheVariants.{Words}
use Rattle.rio_words.specs.Usage.{SaysOfWords}
use Rattle.rio_cli.specs.Answers.{ProgramEnded, Refuses}
use Rattle.rio_cli.specs.Messages.{answer_message}
use Rattle.rio_cli.specs.Statuses.{exit_number}

-- What there is to say was said of words that ask for no command, or of how it ended; or a front of
-- that, where a write failed.
abbrev pub SaysAll : List (List ℕ) → CommandAnswer → Option (List ℕ) → ℕ → Bool → Option (List ℕ)
    → ℕ → Type 0
SaysAll words answer said faults failed said_after faults_after =
    ((answer.status ≡ Words) × SaysOfWords words said faults failed said_after faults_after)
    ⊎ ((answer.status ≢ Words)
    × WritesUnless false said faults failed said_after faults_after (answer_message answer))

-- It called for what the words after its name ask, once: source and sink are left as that answer
-- says. It ends with the number of the answer, and said what there is to say, or a front of that
-- where a write of it failed.
pub record ProgramRan {S : Type 0} {K : Type 0} {M : Type 0} (words : List (List ℕ)) (number : ℕ)
    (left : S → Option (List ℕ)) (read_faults : S → ℕ) (source source_after : S)
    (written : K → Option (List ℕ)) (write_faults : K → ℕ) (sink sink_after : K)
    (said : M → Option (List ℕ)) (say_faults : M → ℕ) (messages messages_after : M) : Type 0 where
  pub answer : CommandAnswer
  pub ended : ProgramEnded words answer.status left read_faults source source_after
      written write_faults sink sink_after
  pub refuses : Refuses words answer (left source) (left source_after) (written sink)
      (written sink_after)
  pub number_is : number ≡ exit_number answer.status
  pub failed : Bool
  pub says : SaysAll words answer (said messages) (say_faults messages) failed (said messages_after)
      (say_faults messages_after)
