-- What a program does that is asked by one word, as each program is.
use Rattle.std.specs.Prelude.{◌≡◌, ℕ, List, Option, Bool, false, if◌then◌else◌}
use Rattle.rio_chars.specs.Unless.{WritesUnless}
use Rattle.program_start.specs.Questions.{AsksQuestion, question_text}
use Rattle.program_start.specs.declared.questions.Question.{Question}
use Rattle.live_lines.specs.declared.status.LiveStatus.{LiveStatus}
use Rattle.live_lines.specs.declared.status.LiveStatus.TheVariants.{Done, WriteFault}

-- A question was answered, or a front of the answer was written since a write failed; and so the
-- program of this name ends, which has this help.
pub record QuestionTold (name help : List ℕ) (question : Question) (status : LiveStatus)
    (written written_after : Option (List ℕ)) (write_faults write_faults_after : ℕ) : Type 0 where
  pub failed : Bool
  pub told : WritesUnless false written write_faults failed written_after write_faults_after
      (question_text name help question)
  pub ends : status ≡ (if failed then WriteFault else Done)

-- The words after the program's name ask a question, which was answered.
pub record AnswersQuestion (name help : List ℕ) (words : List (List ℕ)) (status : LiveStatus)
    (written written_after : Option (List ℕ)) (write_faults write_faults_after : ℕ) : Type 0 where
  pub question : Question
  pub asks : AsksQuestion question words
  pub tells : QuestionTold name help question status written written_after write_faults
      write_faults_after
