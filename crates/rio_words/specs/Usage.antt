-- What is said of words that ask for no command.
use Rattle.std.specs.Prelude.{◌⊎◌, ℕ, List, Option, Bool, false, codes}
use Rattle.rio_chars.specs.Unless.{WritesUnless}
use Rattle.program_start.specs.declared.questions.Question.{Question}
use Rattle.program_start.specs.Questions.{AsksQuestion, AsksNoQuestion, question_text}
use Rattle.rio_words.specs.declared.faults.WordsFault.{WordsFault}
use Rattle.rio_words.specs.Faults.{IsFaultOf, fault_text, first_of}
use Rattle.rio_words.specs.Help.{help_text}

-- Of words that ask for no command: the answer to their question was said, or else what is wrong
-- with them; or a front of that, if a write failed.
abbrev pub SaysOfWords : List (List ℕ) → Option (List ℕ) → ℕ → Bool → Option (List ℕ) → ℕ → Type 0
SaysOfWords words said faults failed said_after faults_after =
    ((question : Question) × AsksQuestion question words
    × WritesUnless false said faults failed said_after faults_after
    (question_text (codes "rio") help_text question))
    ⊎ (AsksNoQuestion words × ((fault : WordsFault) × IsFaultOf fault words
    × WritesUnless false said faults failed said_after faults_after
    (fault_text (first_of words) fault)))
