-- What a script has a link do.
use Rattle.std.specs.Prelude.{◌≡◌, ◌≤◌, ℕ, List, [], ◌∷◌, Result, Ok, Err, if◌then◌else◌, slice_get, slice_set, Some}
use Rattle.link_watch.specs.declared.note.Note.{Note}
use Rattle.link_watch.specs.declared.side.Side.{Side}
use Rattle.link_wires.specs.declared.edits.Edited.{Edited}
use Rattle.link_wires.specs.declared.edits.Edited.TheVariants as Edits
use Rattle.link_machine.specs.Calls.{has_chars, is_silent}
use Rattle.link_machine.specs.States.{LinkState}
use Rattle.link_machine.specs.Acts as acts
use Rattle.link_machine.specs.Acts.{At}
use Rattle.link_machine.specs.Schedules.{Is}
use Rattle.link_machine.specs.Settling.{SchedulePart, Settles}
use Rattle.link_law.specs.Does.{Comes, Ends}
use Rattle.link_law.specs.declared.answers.LinkEnd.{LinkEnd}
use Rattle.link_law.specs.declared.answers.LinkEnd.TheVariants.{Undetected, Failed, NoMemory}
use Rattle.trace_lines.specs.Notes.{port_at_side}
use Rattle.trace_lines.specs.Lines as traced
use Rattle.trace_lines.specs.Lines.{TraceLine, Lacked}
use Rattle.fabric_script.specs.declared.ports.PortRef.{PortRef}
use Rattle.fabric_ports.specs.declared.actions.Acted.{Acted}
use Rattle.fabric_ports.specs.declared.actions.Acted.TheVariants.{Done, Short, Early}
use Rattle.fabric_script.specs.declared.operations.Action.{Action}
use Rattle.fabric_ports.specs.declared.answers.FabricEnd.{FabricEnd}
use Rattle.fabric_ports.specs.declared.answers.FabricEnd.TheVariants as EventEnds
use Rattle.fabric_script.specs.declared.operations.Action.TheVariants.{Pump, Deliver, TimeOut, Settle}

-- a delivery is of one character at least
abbrev pub AsksForSome : Action → Type 0
AsksForSome (Pump turns) = Unit {0}
AsksForSome (Deliver count) = 1 ≤ count
AsksForSome TimeOut = Unit {0}
AsksForSome Settle = Unit {0}

-- what is done for it at this end
abbrev pub part_of : Side → Action → SchedulePart
part_of side (Pump turns) = Is (λ reached. acts.Pump side turns ∷ [])
part_of side (Deliver count) = Is (λ reached. acts.Deliver side count ∷ [])
part_of side TimeOut = Is (λ reached. acts.Fire side ∷ [])
part_of side Settle = Settles

-- what it answers: a wire with fewer characters is short, and a time-out is early while one has any
abbrev pub answer_of : Side → Action → LinkState → Acted
answer_of side (Pump turns) s = Done
answer_of side (Deliver count) s = if has_chars side count s then Done else Short
answer_of side TimeOut s = if is_silent s then Done else Early
answer_of side Settle s = Done

-- what is written where nothing was done
abbrev pub lack_lines : Acted → List TraceLine
lack_lines Done = []
lack_lines Short = Lacked traced.Short ∷ []
lack_lines Early = Lacked traced.Early ∷ []

-- the answer of an edit, as that of an action
abbrev pub edit_acted : Edited → Acted
edit_acted Edits.Done = Done
edit_acted Edits.Short = Short

-- why an event at the link of two ports ended
abbrev pub event_end : PortRef → PortRef → LinkEnd → FabricEnd
event_end a b (Undetected side event) =
    EventEnds.Undetected (port_at_side a b side) event
event_end a b Failed = EventEnds.NoMemory
event_end a b NoMemory = EventEnds.NoMemory

-- a call does this part, by what it answers
abbrev pub Acts : {W : Type 0} → (W → List Note → W → Type 0) → (W → Note → W → Type 0)
    → SchedulePart → LinkState → W → Result Acted LinkEnd → LinkState → W → Type 0
Acts grew cut P before old (Ok answer) next new = Comes grew P before old (At next) new
Acts grew cut P before old (Err end) next new = Ends grew cut P before old end new

-- Two elements of a list became others, and this holds of what they were and are.
pub record AtTwo {X : Type 0} (i j : ℕ) (old new : List X) (Holds : X → X → X → X → Type 0)
    : Type 0 where
  pub first : X
  pub second : X
  pub next_first : X
  pub next_second : X
  pub at_first : slice_get old i ≡ Some first
  pub at_second : slice_get old j ≡ Some second
  pub becomes : new ≡ slice_set (slice_set old i next_first) j next_second
  pub holds : Holds first second next_first next_second
