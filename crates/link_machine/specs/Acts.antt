-- What is done on a link, one thing after another.
use Rattle.std.specs.Prelude.{ℕ, Bool, false, if◌then◌else◌, List, [], ◌∷◌, ◌++◌}
use Rattle.link_model.specs.declared.event.Event.{Event}
use Rattle.link_machine.specs.Prelude.{other_side, Note, Side, LinkState, pumped, pump_notes, told_from, tell_notes, has_chars, delivery_from, delivered_from, delivery_notes, timed_out_at, time_out_notes}
use Rattle.link_wires.specs.Deliveries.{Delivered, Through, WentUndetected}

-- turns of a port; the status of a port that tells its free buffers; a delivery of characters from
-- a port's wire; a time-out of a port
pub data Act : Type 0 where
  Pump : (from : Side) (turns : ℕ) → Act
  Tell : (from : Side) → Act
  Deliver : (from : Side) (count : ℕ) → Act
  Fire : (side : Side) → Act

-- How far a link has come: to a state, or to an event that a port acted on and that was not sent.
-- Nothing is done after such an event.
pub data Reached : Type 0 where
  At : LinkState → Reached
  FoundAt : Side → Event → Reached

-- by what became of a delivery to a port
abbrev pub reached_by : Side → LinkState → Delivered → Reached
reached_by to next (Through flow) = At next
reached_by to next (WentUndetected told e) = FoundAt to e

-- after one thing
abbrev pub after_act : Act → LinkState → Reached
after_act (Pump from turns) link = At (pumped from turns link)
after_act (Tell from) link = At (told_from from link)
after_act (Deliver from count) link =
    if has_chars from count link
    then reached_by (other_side from) (delivered_from from count link)
    (delivery_from from count link)
    else At link
after_act (Fire side) link = At (timed_out_at side link)

-- after a list of things
unfoldable pub goes : Reached → List Act → Reached
goes reached [] = reached
goes (At link) (act ∷ acts) = goes (after_act act link) acts
goes (FoundAt side e) (act ∷ acts) = FoundAt side e

-- what one thing is noted as
abbrev pub act_notes : Act → LinkState → List Note
act_notes (Pump from turns) link = pump_notes from turns link
act_notes (Tell from) link = tell_notes from link
act_notes (Deliver from count) link = delivery_notes from count link
act_notes (Fire side) link = time_out_notes side link

-- the notes of a list of things
unfoldable pub acts_notes : Reached → List Act → List Note
acts_notes reached [] = []
acts_notes (At link) (act ∷ acts) = act_notes act link ++ acts_notes (after_act act link) acts
acts_notes (FoundAt side e) (act ∷ acts) = []

-- whether a test holds of the state that is reached
abbrev pub holds_at : (LinkState → Bool) → Reached → Bool
holds_at test (At link) = test link
holds_at test (FoundAt side e) = false

-- what is true of the state that is reached, if every event was sent
abbrev pub OnState : (LinkState → Type 0) → Reached → Type 0
OnState P (At link) = P link
OnState P (FoundAt side e) = Unit {0}
