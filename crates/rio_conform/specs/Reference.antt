-- A program that answers what it is asked as `rio_port` does.
use Rattle.std.specs.Prelude.{ℕ, ◌-◌, ◌^◌, List, [], Option, Some, Ok}
use Rattle.live_lines.specs.declared.status.LiveStatus.TheVariants.{Done}
use Rattle.live_lines.specs.Serving.{ServesLines}
use Rattle.port_lines.specs.Answers.{ClockedAnswer}
use Rattle.port_lines.specs.Clocks.{ClockedState}
use Rattle.port_lines.specs.Lines.{PortAnswersLines}
use Rattle.port_lines.specs.declared.requests.PortRequest.{PortRequest}
use Rattle.conform_lines.specs.Stimuli.{ReadsStimulus}

-- the line asks for something
abbrev pub AsksSomething : List ℕ → Type 0
AsksSomething line = (request : PortRequest) × ReadsStimulus line (Ok request)

-- What `rio_port` promises of a run that is done: it read these bytes, and what it gave is the
-- answers of their lines, one after another, from this port on.
pub record ReferenceGives (port : ClockedState) (asked given : List ℕ) : Type 0 where
  pub lines : List (List ℕ)
  pub answer : ClockedAnswer
  pub answers : PortAnswersLines port lines answer
  pub left_after : Option (List ℕ)
  pub read_faults : ℕ
  pub read_faults_after : ℕ
  pub write_faults : ℕ
  pub write_faults_after : ℕ
  pub serves : ServesLines (2 ^ 64 - 1) Done (Some asked) left_after read_faults read_faults_after
      (Some []) (Some given) write_faults write_faults_after lines answer.text
