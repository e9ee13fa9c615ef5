-- A port gets some characters wherever notes of a link say that it got any.
use Rattle.lawful_traces.proofs.Prelude.{◌≡◌, ◌≢◌, ℕ, zero, suc, ◌≤◌, Bool, true, false, not, nat_le, List, [], ◌∷◌, map, take, length, Option, Some, None, if◌then◌else◌, refl, sym, subst, arith, MatchBool, AllByRecursion, Char, Event, Place, run, PortState, is_acted, tell_sends, Side, A, B, Told, Flow, Delivered, Through, WentUndetected, begun, done, met, comes, goes_on, come, ended, delivered, told_of, behind, bursts, answers, Move, Held, Freed, Act, Pump, Tell, Deliver, Fire, Reached, At, FoundAt, after_act, goes, act_notes, acts_notes, sent_notes, delivery_from, move_note, told_notes, delivery_notes, has_chars, has_none, is_silent, PortRef, all-append, Got, TraceLine, Signed, Begun, Ended, Undetected, line_of, lines_of}
use Rattle.std.proofs.lemmas.Bool.Decides.{nat_tests}
use Rattle.link_watch.specs.declared.note.Note.{Note}
use Rattle.link_watch.specs.declared.note.Note.TheVariants as Notes
use Rattle.link_watch.specs.Sides.{other_side}
use Rattle.link_machine.specs.Schedules.{NextOf, WhereOf, LoopOf, LoopRests, LoopGoesOn, LoopLeaves}
use Rattle.link_machine.specs.Settling.{SchedulePart, of_end, first_has_chars, all_chars, Empties, Drains, TakesTurn, Restarts, TimesOut, Requests, Recovers, Tells, SendsAll, Settles}
use Rattle.link_machine.specs.States.{LinkState, from_end}

-- A line within the block of an event: it begins no event and ends no trace. What a port got is not
-- empty.
abbrev pub GotsSome : TraceLine → Type 0
GotsSome (Signed (Got q chars)) = chars ≢ []
GotsSome (Begun line) = ⊥
GotsSome Ended = ⊥
GotsSome (Undetected number q e) = ⊥
GotsSome _ = Unit {0}

abbrev pub AllGotSome : List TraceLine → Type 0
AllGotSome lines = AllByRecursion GotsSome lines

-- ---- notes

abbrev NoteSome : Note → Type 0
NoteSome (Notes.Got side chars) = chars ≢ []
NoteSome _ = Unit {0}

line_some : (a b : PortRef) (note : Note) → NoteSome note → GotsSome (line_of a b note)
line_some a b (Notes.Sent side chars) some = tt
line_some a b (Notes.Got side chars) some = some
line_some a b (Notes.Hold side packet) some = tt
line_some a b (Notes.Free side packet) some = tt
line_some a b (Notes.Fire side) some = tt

pub lines_some : (a b : PortRef) (notes : List Note) → AllByRecursion NoteSome notes
    → AllGotSome (lines_of a b notes)
lines_some a b [] some = tt
lines_some a b (note ∷ notes) some = (line_some a b note some.0, lines_some a b notes some.1)

pub sent_some : (side : Side) (chars : List Char) → AllByRecursion NoteSome (sent_notes side chars)
sent_some side [] = tt
sent_some side (c ∷ chars) = (tt, tt)

moves_some : (side : Side) (moves : List Move)
    → AllByRecursion NoteSome (map (move_note side) moves)
moves_some side [] = tt
moves_some side (Held packet ∷ moves) = (tt, moves_some side moves)
moves_some side (Freed packet ∷ moves) = (tt, moves_some side moves)

pub fired_some : (side : Side) (silent : Bool)
    → AllByRecursion NoteSome (if silent then Notes.Fire side ∷ [] else [])
fired_some side true = (tt, tt)
fired_some side false = tt

-- ---- deliveries

-- up to an event that was not sent, some characters were taken
abbrev FoundSome : Delivered → Type 0
FoundSome (Through flow) = Unit {0}
FoundSome (WentUndetected told e) = 1 ≤ told.count

met_some : (at : ℕ) (e : Event) (kept : Option (List Event)) (flow : Flow)
    → FoundSome (met at e kept flow)
met_some at e None flow = omega arith
met_some at e (Some kept) flow = tt

comes_some : (flow : Flow) (event : ℕ × Event) → FoundSome (comes flow event)
comes_some flow event = by (is_acted flow.port event.1)
  where
    by : (b : Bool) → FoundSome (if b
        then met event.0 event.1 (behind event.1 flow.kept) flow
        else Through (done event.1 [] flow.kept flow))
    by true = met_some event.0 event.1 (behind event.1 flow.kept) flow
    by false = tt

on_some : (more : Flow → Delivered) (d : Delivered) → ((flow : Flow) → FoundSome (more flow))
    → FoundSome d → FoundSome (goes_on more d)
on_some more (Through flow) next some = next flow
on_some more (WentUndetected told e) next some = some

come_some : (events : List (ℕ × Event)) (flow : Flow) → FoundSome (come events flow)
unfolding come
come_some [] flow = tt
come_some (event ∷ events) flow =
    on_some (come events) (comes flow event) (come_some events) (comes_some flow event)

ended_some : (place : Place) (count : ℕ) (d : Delivered) → FoundSome d → 1 ≤ count
    → 1 ≤ (told_of (ended place count d)).count
ended_some place count (Through flow) some least = least
ended_some place count (WentUndetected told e) some least = some

some_long : (chars : List Char) → chars ≢ [] → 1 ≤ length chars
some_long [] some = absurd (some refl)
some_long (c ∷ chars) some = omega arith

told_some : (port : PortState) (kept : List Event) (chars : List Char) → chars ≢ []
    → 1 ≤ (told_of (delivered port kept chars)).count
told_some port kept chars some =
    let least = some_long chars some in
    ended_some _ _ (come (run port.place 0 chars) (begun port kept))
    (come_some (run port.place 0 chars) (begun port kept)) (omega (arith, least))

take_some : (chars : List Char) (n : ℕ) → chars ≢ [] → 1 ≤ n → take n chars ≢ []
take_some [] n some least = absurd (some refl)
take_some (c ∷ chars) zero some least = absurd (omega (arith, least))
take_some (c ∷ chars) (suc n) some least = λ none. absurd (cc none)

long_some : (chars : List Char) (n : ℕ) → 1 ≤ n → nat_le n (length chars) ≡ true → chars ≢ []
long_some [] n least has =
    let low : n ≤ 0 = grind (arith, nat_tests, has) in absurd (omega (arith, least, low))
long_some (c ∷ chars) n least has = λ none. absurd (cc none)

came_some : (from : Side) (n : ℕ) (s : LinkState) → take n (from_end from s).wire_a.chars ≢ []
    → 1 ≤ (told_of (delivery_from from n s)).count
came_some A n s taken = told_some s.b s.wire_a.kept (take n s.wire_a.chars) taken
came_some B n s taken = told_some s.a s.wire_b.kept (take n s.wire_b.chars) taken

pub delivery_some : (from : Side) (n : ℕ) (s : LinkState) → 1 ≤ n
    → AllByRecursion NoteSome (delivery_notes from n s)
delivery_some from n s least = by (has_chars from n s) refl
  where
    wire : List Char
    wire = (from_end from s).wire_a.chars

    told : Told
    told = told_of (delivery_from from n s)

    by : (b : Bool) → has_chars from n s ≡ b → AllByRecursion NoteSome
        (if b then told_notes (other_side from) (take n wire) told else [])
    by true has =
        let taken = take_some wire n (long_some wire n least has) least in (
          take_some (take n wire) told.count taken (came_some from n s taken),
          all-append NoteSome (map (move_note (other_side from)) told.moves)
              (sent_notes (other_side from) (answers told.replies).chars)
              (moves_some (other_side from) told.moves)
              (sent_some (other_side from) (answers told.replies).chars),
        )
    by false has = tt

-- ---- what is done while a link settles

abbrev ActSome : Act → Type 0
ActSome (Deliver from count) = 1 ≤ count
ActSome _ = Unit {0}

act_some : (act : Act) (s : LinkState) → ActSome act → AllByRecursion NoteSome (act_notes act s)
act_some (Pump from turns) s some = sent_some from (bursts turns (from_end from s).a).chars
act_some (Tell from) s some = sent_some from (tell_sends (from_end from s).a).chars
act_some (Deliver from count) s some = delivery_some from count s some
act_some (Fire side) s some = fired_some side (is_silent s)

pub acts_some : (acts : List Act) (reached : Reached) → AllByRecursion ActSome acts
    → AllByRecursion NoteSome (acts_notes reached acts)
unfolding acts_notes
acts_some [] reached some = tt
acts_some (act ∷ acts) (At s) some =
    all-append NoteSome (act_notes act s) (acts_notes (after_act act s) acts)
    (act_some act s some.0) (acts_some acts (after_act act s) some.1)
acts_some (act ∷ acts) (FoundAt side e) some = tt

-- each act of a part is such
abbrev ActsSome : SchedulePart → Type 0
ActsSome Part = (reached : Reached) (acts : List Act) → Part reached acts
    → AllByRecursion ActSome acts

acts_by : {acts other : List Act} → acts ≡ other → AllByRecursion ActSome other
    → AllByRecursion ActSome acts
acts_by is some = subst (AllByRecursion ActSome) (sym is) some

next_some : (First Then : SchedulePart) → ActsSome First → ActsSome Then
    → ActsSome (NextOf goes First Then)
next_some First Then first then_more reached acts part =
    acts_by part.2 (all-append ActSome part.0 part.1 (first reached part.0 part.3)
    (then_more (goes reached part.0) part.1 part.4))

where_some : (test : Reached → Bool) (Part : SchedulePart)
    → ((reached : Reached) (acts : List Act) → test reached ≡ true → Part reached acts
    → AllByRecursion ActSome acts) → ActsSome (WhereOf test Part)
where_some test Part some reached acts part = by (test reached) refl part
  where
    by : (b : Bool) → test reached ≡ b → MatchBool b (Part reached acts) (acts ≡ [])
        → AllByRecursion ActSome acts
    by true holds part = some reached acts holds part
    by false holds none = acts_by none tt

loop_some : (test leaves : Reached → Bool) (Part Last : SchedulePart) → ActsSome Part
    → ActsSome Last → {reached : Reached} {acts : List Act}
    → LoopOf goes test Part leaves Last reached acts → AllByRecursion ActSome acts
loop_some test leaves Part Last part last (LoopRests none is) = acts_by is tt
loop_some test leaves Part Last part last {reached}
    (LoopGoesOn first rest holds own is stays more) =
    acts_by is (all-append ActSome first rest (part reached first own)
    (loop_some test leaves Part Last part last more))
loop_some test leaves Part Last part last {reached}
    (LoopLeaves first rest holds own is goes_now end) =
    acts_by is (all-append ActSome first rest (part reached first own)
    (last (goes reached first) rest end))

chars_some : (chars : List Char) → not (has_none chars) ≡ true → 1 ≤ length chars
chars_some [] some = absurd cc
chars_some (c ∷ chars) some = omega arith

empties_some : (from : Side) → ActsSome (Empties from)
empties_some from =
    where_some (of_end from first_has_chars) (λ reached acts. acts ≡ all_chars from reached) by
  where
    by : (reached : Reached) (acts : List Act) → of_end from first_has_chars reached ≡ true
        → acts ≡ all_chars from reached → AllByRecursion ActSome acts
    by (At s) acts holds is = acts_by is (chars_some (from_end from s).wire_a.chars holds, tt)
    by (FoundAt side e) acts holds is = acts_by is tt

drains_some : ActsSome Drains
drains_some reached acts loop =
    loop_some _ _ (NextOf goes (Empties A) (Empties B)) (λ reached acts. acts ≡ [])
    (next_some (Empties A) (Empties B) (empties_some A) (empties_some B))
    (λ reached acts is. acts_by is tt) loop

turn_some : (side : Side) → ActsSome (TakesTurn side)
turn_some side =
    next_some _ Drains (where_some _ (λ reached acts. acts ≡ Pump side 1 ∷ [])
    (λ reached acts holds is. acts_by is (tt, tt))) drains_some

restarts_some : (side : Side) → ActsSome (Restarts side)
restarts_some side =
    where_some _ (TakesTurn side) (λ reached acts holds. turn_some side reached acts)

times_some : (side : Side) → ActsSome (TimesOut side)
times_some side =
    where_some _ (λ reached acts. acts ≡ Fire side ∷ [])
    (λ reached acts holds is. acts_by is (tt, tt))

requests_some : (side : Side) → ActsSome (Requests side)
requests_some side =
    where_some _ (NextOf goes (TimesOut side) (TakesTurn side))
    (λ reached acts holds.
    next_some (TimesOut side) (TakesTurn side) (times_some side) (turn_some side) reached acts)

recovers_some : (side : Side) → ActsSome (Recovers side)
recovers_some side =
    where_some _ (NextOf goes (Restarts side) (Requests side))
    (λ reached acts holds.
    next_some (Restarts side) (Requests side) (restarts_some side) (requests_some side) reached
    acts)

tells_some : (side : Side) → ActsSome (Tells side)
tells_some side =
    where_some _ (NextOf goes (λ reached acts. acts ≡ Tell side ∷ []) Drains)
    (λ reached acts holds. next_some (λ reached acts. acts ≡ Tell side ∷ []) Drains
    (λ reached acts is. acts_by is (tt, tt)) drains_some reached acts)

sends_some : (side : Side) → ActsSome (SendsAll side)
sends_some side =
    where_some _ (LoopOf goes _ (TakesTurn side) _ (TakesTurn side))
    (λ reached acts holds.
    loop_some _ _ (TakesTurn side) (TakesTurn side) (turn_some side) (turn_some side))

pub settles_some : ActsSome Settles
settles_some =
    next_some Drains _ drains_some
    (next_some (Recovers A) _ (recovers_some A)
    (next_some (Recovers B) _ (recovers_some B)
    (next_some (Tells A) _ (tells_some A)
    (next_some (Tells B) _ (tells_some B)
    (next_some (SendsAll A) (SendsAll B) (sends_some A) (sends_some B))))))
