-- What a call of a link does, as a part of the schedule.
use Rattle.std.proofs.Common.{◌≡◌, ℕ, Bool, true, false, List, Result, Ok, Err, refl, sym, ap, ◌∙◌, subst, if◌then◌else◌, IsErrAnd}
use Rattle.link_model.specs.declared.event.Event.{Event}
use Rattle.link_watch.specs.Sides.{other_side}
use Rattle.link_watch.specs.Stops.{Stopped}
use Rattle.link_watch.specs.declared.note.Note.{Note}
use Rattle.link_watch.specs.declared.side.Side.{Side}
use Rattle.link_watch.specs.declared.watch.NoteEnd.{NoteEnd}
use Rattle.link_watch.specs.declared.watch.NoteEnd.TheVariants as Stop
use Rattle.link_wires.specs.declared.edits.Edited.{Edited}
use Rattle.link_wires.specs.declared.edits.Edited.TheVariants as Edits
use Rattle.link_machine.specs.Calls.{pumped, pump_notes, has_chars, first_takes, delivery_from, delivered_from, delivery_notes, timed_out_at, time_out_notes}
use Rattle.link_machine.specs.States.{LinkState, at_end}
use Rattle.link_machine.specs.Acts as acts
use Rattle.link_machine.specs.Acts.{At, FoundAt, reached_by, after_act}
use Rattle.link_law.specs.Answers.{delivery_taken, delivery_answer, UnlessGivenUp, OnGivenUp}
use Rattle.link_law.specs.Does.{Comes, Stops, Ends, end_of}
use Rattle.link_law.specs.declared.answers.LinkEnd.{LinkEnd}
use Rattle.link_law.specs.declared.answers.LinkEnd.TheVariants.{Undetected, Failed, NoMemory}
use Rattle.link_law.proofs.DeliverLaws.{one_comes, one_stops, through_is, found_is}
use Rattle.link_machine.specs.Settling.{SchedulePart}
use Rattle.fabric_ports.specs.Acting.{part_of, Acts}
use Rattle.fabric_ports.specs.declared.actions.Acted.{Acted}
use Rattle.fabric_script.specs.declared.operations.Action.{Action}
use Rattle.fabric_script.specs.declared.operations.Action.TheVariants.{Pump, Deliver, TimeOut}

-- one act that was not noted to its end
stops : {W : Type 0} (grew : W → List Note → W → Type 0) (cut : W → Note → W → Type 0) (side : Side)
    (action : Action) (before : LinkState) (old new : W) (end : NoteEnd)
    → Stops grew cut (part_of side action) before old new
    → Ends grew cut (part_of side action) before old (end_of end) new
stops grew cut side action before old new Stop.Failed stopped = stopped
stops grew cut side action before old new Stop.NoMemory stopped = stopped

-- a call in one that ended, which ended so too
pub acts_end : {W : Type 0} (grew : W → List Note → W → Type 0) (cut : W → Note → W → Type 0)
    (P : SchedulePart) (before : LinkState) (old : W) (result : Result Acted LinkEnd)
    (end : LinkEnd)
    (next : LinkState) (new : W) → IsErrAnd result (λ y. y ≡ end)
    → Ends grew cut P before old end new → Acts grew cut P before old result next new
acts_end grew cut P before old (Ok answer) end next new gives ends = absurd gives
acts_end grew cut P before old (Err y) end next new gives ends =
    subst (λ e. Ends grew cut P before old e new) (sym gives) ends

-- ---- turns

pub turns_come : {W : Type 0} (grew : W → List Note → W → Type 0) (side : Side) (action : Action)
    (n : ℕ) (before next : LinkState) (old new : W) → action ≡ Pump n
    → next ≡ pumped side n before → grew old (pump_notes side n before) new
    → Comes grew (part_of side action) before old (At next) new
turns_come grew side action n before next old new is there grown =
    subst (λ a. Comes grew (part_of side a) before old (At next) new) (sym is)
    (one_comes (acts.Pump side n) before old new (At next) (ap At (sym there)) grown)

pub turns_end : {W : Type 0} (grew : W → List Note → W → Type 0) (cut : W → Note → W → Type 0)
    (side : Side) (action : Action) (n : ℕ) (before : LinkState) (old new : W) (end : NoteEnd)
    → action ≡ Pump n
    → Stopped grew cut old (pump_notes side n before) new
    → Ends grew cut (part_of side action) before old (end_of end) new
turns_end grew cut side action n before old new end is stopped =
    subst (λ a. Ends grew cut (part_of side a) before old (end_of end) new) (sym is)
    (stops grew cut side (Pump n) before old new end
    (one_stops (acts.Pump side n) before old new stopped))

-- ---- time-outs

pub fire_comes : {W : Type 0} (grew : W → List Note → W → Type 0) (side : Side) (action : Action)
    (before next : LinkState) (old new : W) → action ≡ TimeOut
    → next ≡ timed_out_at side before → grew old (time_out_notes side before) new
    → Comes grew (part_of side action) before old (At next) new
fire_comes grew side action before next old new is there grown =
    subst (λ a. Comes grew (part_of side a) before old (At next) new) (sym is)
    (one_comes (acts.Fire side) before old new (At next) (ap At (sym there)) grown)

pub fire_ends : {W : Type 0} (grew : W → List Note → W → Type 0) (cut : W → Note → W → Type 0)
    (side : Side) (action : Action) (before : LinkState) (old new : W) (end : NoteEnd)
    → action ≡ TimeOut
    → Stopped grew cut old (time_out_notes side before) new
    → Ends grew cut (part_of side action) before old (end_of end) new
fire_ends grew cut side action before old new end is stopped =
    subst (λ a. Ends grew cut (part_of side a) before old (end_of end) new) (sym is)
    (stops grew cut side TimeOut before old new end
    (one_stops (acts.Fire side) before old new stopped))

-- ---- deliveries

delivered : (from : Side) (n : ℕ) (s next : LinkState) (x : Edited)
    → Ok x ≡ delivery_answer from n s → next ≡ delivered_from from n s
    → after_act (acts.Deliver from n) s ≡ At next
delivered from n s next x answer there = by_chars (has_chars from n s) refl
  where
    by_chars : (has : Bool) → has_chars from n s ≡ has → after_act (acts.Deliver from n) s ≡ At next
    by_chars true is =
        let d = delivery_from from n s in
        let taken : Ok x ≡ delivery_taken (other_side from) d = answer
        ∙ ap (λ (b : Bool). if b then delivery_taken (other_side from) d else Ok Edits.Short) is in
        ap (λ (b : Bool). if b then reached_by (other_side from) (delivered_from from n s) d else At
        s) is
        ∙ through_is (other_side from) (delivered_from from n s) d x taken ∙ ap At (sym there)
    by_chars false is =
        let stays : delivered_from from n s ≡ s =
        ap (λ (b : Bool). if b then at_end (other_side from) (first_takes n) s else s) is in
        ap (λ (b : Bool). if b then reached_by (other_side from) (delivered_from from n s)
        (delivery_from from n s) else At s) is
        ∙ ap At (sym (there ∙ stays))

pub delivery_comes : {W : Type 0} (grew : W → List Note → W → Type 0) (side : Side)
    (action : Action) (n : ℕ) (before next : LinkState) (old new : W) (x : Edited)
    → action ≡ Deliver n
    → Ok x ≡ delivery_answer side n before → next ≡ delivered_from side n before
    → grew old (delivery_notes side n before) new
    → Comes grew (part_of side action) before old (At next) new
delivery_comes grew side action n before next old new x is answer there grown =
    subst (λ a. Comes grew (part_of side a) before old (At next) new) (sym is)
    (one_comes (acts.Deliver side n) before old new (At next)
    (delivered side n before next x answer there) grown)

undelivered : (from side : Side) (n : ℕ) (s : LinkState) (e : Event)
    → Err (Undetected side e) ≡ delivery_answer from n s
    → after_act (acts.Deliver from n) s ≡ FoundAt side e
undelivered from side n s e answer = by_chars (has_chars from n s) refl
  where
    by_chars : (has : Bool) → has_chars from n s ≡ has
        → after_act (acts.Deliver from n) s ≡ FoundAt side e
    by_chars true is =
        let d = delivery_from from n s in
        let taken : Err (Undetected side e) ≡ delivery_taken (other_side from) d = answer
        ∙ ap (λ (b : Bool). if b then delivery_taken (other_side from) d else Ok Edits.Short) is in
        ap (λ (b : Bool). if b then reached_by (other_side from) (delivered_from from n s) d else At
        s) is
        ∙ found_is (other_side from) side (delivered_from from n s) d e taken
    by_chars false is =
        let d = delivery_from from n s in
        let short : Err (Undetected side e) ≡ Ok Edits.Short = answer
        ∙ ap (λ (b : Bool). if b then delivery_taken (other_side from) d else Ok Edits.Short) is in
        absurd cc

by_end : {W : Type 0} (grew : W → List Note → W → Type 0) (cut : W → Note → W → Type 0)
    (side : Side) (n : ℕ) (before : LinkState) (old new : W) (end : LinkEnd)
    → UnlessGivenUp {T = Edited} (Err end) (Err end ≡ delivery_answer side n before)
    → UnlessGivenUp {T = Edited} (Err end) (grew old (delivery_notes side n before) new)
    → OnGivenUp {T = Edited} (Err end) (Stopped grew cut old (delivery_notes side n before) new)
    → Ends grew cut (part_of side (Deliver n)) before old end new
by_end grew cut side n before old new (Undetected to e) answer noted stopped =
    one_comes (acts.Deliver side n) before old new (FoundAt to e)
    (undelivered side to n before e answer) noted
by_end grew cut side n before old new Failed answer noted stopped =
    one_stops (acts.Deliver side n) before old new stopped
by_end grew cut side n before old new NoMemory answer noted stopped =
    one_stops (acts.Deliver side n) before old new stopped

pub delivery_ends : {W : Type 0} (grew : W → List Note → W → Type 0) (cut : W → Note → W → Type 0)
    (side : Side) (action : Action) (n : ℕ) (before : LinkState) (old new : W) (end : LinkEnd)
    → action ≡ Deliver n
    → UnlessGivenUp {T = Edited} (Err end) (Err end ≡ delivery_answer side n before)
    → UnlessGivenUp {T = Edited} (Err end) (grew old (delivery_notes side n before) new)
    → OnGivenUp {T = Edited} (Err end) (Stopped grew cut old (delivery_notes side n before) new)
    → Ends grew cut (part_of side action) before old end new
delivery_ends grew cut side action n before old new end is answer noted stopped =
    subst (λ a. Ends grew cut (part_of side a) before old end new) (sym is)
    (by_end grew cut side n before old new end answer noted stopped)
