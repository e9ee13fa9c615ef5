-- What each call of a link answers.
use Rattle.std.specs.Prelude.{Bool, true, false, ℕ, Option, Some, None, Result, Ok, Err, if◌then◌else◌}
use Rattle.link_model.specs.declared.event.Event.{Event}
use Rattle.link_machine.specs.Prelude.{other_side, Side, has_chars, delivery_from, LinkState}
use Rattle.link_wires.specs.Deliveries.{Delivered, Through, WentUndetected}
use Rattle.link_wires.specs.declared.edits.Edited.{Edited}
use Rattle.link_wires.specs.declared.edits.Edited.TheVariants.{Done, Short}
use Rattle.link_law.specs.declared.answers.Fired.{Fired}
use Rattle.link_law.specs.declared.answers.Fired.TheVariants as Fires
use Rattle.link_law.specs.declared.answers.LinkEnd.{LinkEnd}
use Rattle.link_law.specs.declared.answers.LinkEnd.TheVariants.{Undetected, Failed, NoMemory}

-- of a time-out, by whether nothing stands on either wire
abbrev pub fired : Bool → Fired
fired true = Fires.Done
fired false = Fires.Early

-- of a delivery to the port at this end
abbrev pub delivery_taken : Side → Delivered → Result Edited LinkEnd
delivery_taken to (Through flow) = Ok Done
delivery_taken to (WentUndetected told e) = Err (Undetected to e)

-- of a delivery from this end, unless memory or the watch ended it
abbrev pub delivery_answer : Side → ℕ → LinkState → Result Edited LinkEnd
delivery_answer from count s =
    if has_chars from count s
    then delivery_taken (other_side from) (delivery_from from count s)
    else Ok Short

-- memory or the watch ended a call, or a fact holds
abbrev pub UnlessGivenUp : {T : Type 0} → Result T LinkEnd → Type 0 → Type 0
UnlessGivenUp (Ok x) P = P
UnlessGivenUp (Err (Undetected side e)) P = P
UnlessGivenUp (Err Failed) P = Unit {0}
UnlessGivenUp (Err NoMemory) P = Unit {0}

-- where memory or the watch ended a call, a fact holds
abbrev pub OnGivenUp : {T : Type 0} → Result T LinkEnd → Type 0 → Type 0
OnGivenUp (Ok x) P = Unit {0}
OnGivenUp (Err (Undetected side e)) P = Unit {0}
OnGivenUp (Err Failed) P = P
OnGivenUp (Err NoMemory) P = P

-- of a delivery whose notes were taken in, by the event that was not sent
abbrev pub delivery_end : Side → Option Event → Result Edited LinkEnd
delivery_end to None = Ok Done
delivery_end to (Some e) = Err (Undetected to e)
