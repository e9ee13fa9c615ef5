-- Events that are carried out one after another.
use Rattle.std.specs.Prelude.{ℕ, Bool, List, ◌++◌}
use Rattle.rio_chars.specs.Written.{Outgoing, Writes}
use Rattle.fabric_script.specs.declared.lines.Line.{Line}
use Rattle.live_fabric.specs.declared.answers.AfterLine.{AfterLine}
use Rattle.live_fabric.specs.declared.live.Live.{Live}
use Rattle.live_fabric.specs.Lines.{Taken}
use Rattle.live_fabric.specs.Telling.{TellsEvents, IsEventsFront}
use Rattle.live_fabric.specs.Holding.{LiveHolds, MayCollect, SameSetUp}
use Rattle.live_fabric.specs.Answers.{LiveGoes}

-- they were, and what is told of them was written
pub record EventsDone (quiet : Bool) (taken : Taken) (number : ℕ) (events : List Line)
    (old new : Outgoing) (live : Live) (after : AfterLine) : Type 0 where
  pub text : List ℕ
  pub end : Taken
  pub is : TellsEvents quiet taken number events text end
  pub told : Writes old new text
  pub goes : LiveGoes after live end

-- it broke off, and a front of what is told of them was written
pub record EventsBreak (quiet : Bool) (taken : Taken) (number : ℕ) (events : List Line)
    (old new : Outgoing) : Type 0 where
  pub text : List ℕ
  pub is : IsEventsFront quiet taken number events text
  pub told : Writes old new text

-- They were, from whatever lines were taken, if these nodes may collect.
abbrev pub DoneWhile : List ℕ → Bool → ℕ → List Line → Live → Outgoing → Outgoing → Live
    → AfterLine → Type 0
DoneWhile nodes quiet number events before old new live after = (taken : Taken)
    → LiveHolds before taken → MayCollect taken nodes
    → EventsDone quiet taken number events old new live after

-- The same where it broke off.
abbrev pub BreaksWhile : List ℕ → Bool → ℕ → List Line → Live → Outgoing → Outgoing → Type 0
BreaksWhile nodes quiet number events before old new = (taken : Taken)
    → LiveHolds before taken → MayCollect taken nodes
    → EventsBreak quiet taken number events old new

-- Some of them were carried out, and these are left: what is told of those is told behind what was
-- written.
pub record EventsCourse (quiet : Bool) (taken : Taken) (number : ℕ) (events left : List Line)
    (old new : Outgoing) (live : Live) : Type 0 where
  pub text : List ℕ
  pub mid : Taken
  pub told : Writes old new text
  pub holds : LiveHolds live mid
  pub same : SameSetUp taken mid
  pub goes : (more : List ℕ) (end : Taken) → TellsEvents quiet mid number left more end
      → TellsEvents quiet taken number events (text ++ more) end
  pub breaks : (more : List ℕ) → IsEventsFront quiet mid number left more
      → IsEventsFront quiet taken number events (text ++ more)
