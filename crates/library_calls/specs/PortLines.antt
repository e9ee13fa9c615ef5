-- What a line does that an open port is given.
use Rattle.std.specs.Prelude.{◌≡◌, ℕ, Bool, true, false, Option, List, ◌++◌}
use Rattle.std.specs.Io.KnownBytes.{Appends}
use Rattle.rio_chars.specs.Fronts.{AppendsFront}
use Rattle.port_lines.specs.Answers.{ClockedAnswer}
use Rattle.port_lines.specs.Lines.{AnswersLine}
use Rattle.library_calls.specs.declared.status.CallStatus.{CallStatus}
use Rattle.library_calls.specs.declared.status.CallStatus.TheVariants.{Done, NoMemory, Cut}
use Rattle.library_calls.specs.PortsSeen.{PortSeen, opened_port, port_told, clocked_seen}

-- The port went on as an answer says that the line has, and a front of the text of that answer
-- waits.
pub record PortLineCut (old : PortSeen) (line : List ℕ) (new : PortSeen) : Type 0 where
  pub answer : ClockedAnswer
  pub answers : AnswersLine (clocked_seen old) line answer
  pub rest : List ℕ
  pub port : clocked_seen new ≡ answer.stands
  pub front : answer.text ≡ new.text ++ rest

-- The line was answered. If memory was refused before anything was done, the port is as before. If
-- it was refused later, the port went on, and a front of the answer waits.
abbrev pub PortLineDid : List ℕ → PortSeen → CallStatus → PortSeen → Type 0
PortLineDid line old Done new = (answer : ClockedAnswer)
    × AnswersLine (clocked_seen old) line answer × (new ≡ port_told answer.stands answer.text)
PortLineDid line old NoMemory new = new ≡ opened_port (clocked_seen old)
PortLineDid line old Cut new = PortLineCut old line new
PortLineDid line old _ new = ⊥

-- all of a text was written, or a front of it if a write failed
abbrev pub WritesBut : Bool → Option (List ℕ) → Option (List ℕ) → List ℕ → Type 0
WritesBut false written written_after text = Appends written written_after text
WritesBut true written written_after text = AppendsFront written written_after text
