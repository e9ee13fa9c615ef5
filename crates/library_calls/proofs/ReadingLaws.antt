-- Characters are read one after another, and what they say stands in a room.
use Rattle.std.proofs.Common.{◌≡◌, inl, inr, Bool, true, false, ℕ, suc, ◌+◌, ◌-◌, ◌*◌, ◌<◌, ◌≤◌, List, [], ◌∷◌, ◌++◌, length, get_or, slice_set, take, drop, refl, sym, ap, ◌∙◌, subst, append_assoc, append-nil, add-one, arith, length-append, drop-cons}
use Rattle.std.proofs.lemmas.Grind.{common_steps}
use Rattle.std.proofs.lemmas.List.{map-append, set_at, take_all, take-append-le}
use Rattle.std.proofs.Math.Seq.{take-nil}
use Rattle.link_model.specs.Prelude.{Char, telling_front}
use Rattle.link_model.specs.declared.event.Event.{Event}
use Rattle.link_model.specs.Reading.{placed}
use Rattle.link_model.specs.Places.{Place, ReaderStep, place_start, step, run, place_after, at_rest}
use Rattle.link_model.specs.Fronts.{front_by, no_front}
use Rattle.link_model.proofs.PlacesLaws.{reading_cut, reading_exists, run-none, run-cons, place_after-none, place_after-cons}
use Rattle.rio_framer.specs.declared.events.Events.{Events}
use Rattle.rio_framer.specs.declared.events.Told.{Told}
use Rattle.rio_framer.specs.Framing.{Framing, framing_after}
use Rattle.rio_framer.specs.Giving.{listed, told_of_events, events_by}
use Rattle.rio_framer.proofs.GivingLaws.{events_by-front, listed-front}
use Rattle.library_calls.specs.declared.told.EventTold.{EventTold}
use Rattle.library_calls.specs.Rooms.{laid_over}
use Rattle.library_calls.specs.Wires.{wire_char, wire_chars}
use Rattle.library_calls.specs.Readings.{event_told, events_told, cut_number, StandIn, TellsCut, TellsReading}

-- ---- the front of one character

front_by_one : (gives : List Event) (first : ReaderStep) → first.gives ≡ gives
    → (front_by gives first (no_front first.place)).step ≡ first
front_by_one [] first is =
    ap (λ (given : List Event). record { place = first.place; gives = given }) (sym is)
front_by_one (e ∷ es) first is = refl

-- the front of one character is that character
pub front_of_one : (from : Place) (c : Char) → (telling_front from (c ∷ [])).step ≡ step from c
unfolding telling_front
front_of_one from c = front_by_one (step from c).gives (step from c) refl

-- ---- the room

pub stand_none : (room : List EventTold) → StandIn [] room 0 room
stand_none room = record {
  count_is = refl;
  room_is = ap (λ (f : List EventTold). laid_over f room) (sym (take-nil (length room)));
}

-- there is a place for what is told
pub stand_more : (before begun room : List EventTold) (count : ℕ) (told : EventTold)
    → count < length begun → StandIn before begun count room
    → StandIn (before ++ told ∷ []) begun (count + 1) (slice_set room count told)
stand_more before begun room count told within h =
    let all = before ++ told ∷ [] in
    let size : length before ≡ count = sym h.count_is in
    let more : length all ≡ count + 1 = length-append before (told ∷ []) ∙ ap (λ n. n + 1) size in
    let front : take (length begun) before ≡ before =
    take_all (length begun) before (omega (arith, size, within)) in
    let whole : take (length begun) all ≡ all =
    take_all (length begun) all (omega (arith, more, within)) in
    let behind : drop (length before) begun ≡ get_or begun count told ∷ drop (count + 1) begun =
    ap (λ n. drop n begun) size ∙ drop-cons begun count told within
    ∙ ap (λ n. get_or begun count told ∷ drop n begun) (sym (add-one count)) in
    let is : room ≡ before ++ get_or begun count told ∷ drop (count + 1) begun =
    h.room_is ∙ ap (λ (f : List EventTold). laid_over f begun) front
    ∙ ap (λ (r : List EventTold). before ++ r) behind in
    let put : slice_set room count told ≡ all ++ drop (length all) begun =
    ap (λ (r : List EventTold). slice_set r count told) is
    ∙ set_at before (get_or begun count told) (drop (count + 1) begun) told count size
    ∙ sym (append_assoc before (told ∷ []) (drop (count + 1) begun))
    ∙ ap (λ n. all ++ drop n begun) (sym more) in
    record {
      count_is = sym more;
      room_is = put ∙ ap (λ (f : List EventTold). laid_over f begun) (sym whole);
    }

-- there is none
pub stand_beyond : (before begun room : List EventTold) (count : ℕ) (told : EventTold)
    → length begun ≤ count → StandIn before begun count room
    → StandIn (before ++ told ∷ []) begun (count + 1) room
stand_beyond before begun room count told beyond h =
    let size : length before ≡ count = sym h.count_is in
    record {
      count_is = sym (length-append before (told ∷ []) ∙ ap (λ n. n + 1) size);
      room_is = h.room_is ∙ ap (λ (f : List EventTold). laid_over f begun)
          (sym (take-append-le (length begun) before (told ∷ []) (omega (arith, size, beyond))));
    }

-- the room keeps its length
pub stand_length : (before begun room : List EventTold) (count : ℕ)
    → StandIn before begun count room → length room ≡ length begun
stand_length before begun room count h = grind (arith, common_steps, h.room_is)

-- ---- the characters

-- what a character gives is what it tells, with the packet that ended
given_events : (from : Place) (cs : List Char) (told : Told) (new : Framing)
    → told ≡ told_of_events (telling_front from cs).step.gives
    → new ≡ framing_after (telling_front from cs).step
    → listed (events_by told new.ended).first (events_by told new.ended).second
    ≡ (telling_front from cs).step.gives
given_events from cs told new told_is new_is =
    ap (λ (t : Told). listed (events_by t new.ended).first (events_by t new.ended).second) told_is
    ∙ ap (λ (f : Framing). listed
    (events_by (told_of_events (telling_front from cs).step.gives) f.ended).first
    (events_by (told_of_events (telling_front from cs).step.gives) f.ended).second) new_is
    ∙ ap (λ (e : Events). listed e.first e.second) (events_by-front from cs)
    ∙ listed-front from cs

-- the first of some numbers, and those behind it
pub first_number : (left : List ℕ) (d : ℕ) → 1 ≤ length left
    → left ≡ get_or left 0 d ∷ take (length left - 1) (drop 1 left)
first_number [] d some = absurd (omega arith)
first_number (n ∷ left) d some =
    let all : take (length (n ∷ left) - 1) left ≡ left = grind (arith, common_steps) in
    ap (λ (ns : List ℕ). n ∷ ns) (sym all)

-- So far have characters been read from a start: what those before the ones that are left say
-- stands in the room.
pub record ReadsOn (start : Place) (numbers left : List ℕ) (from : Place) (at events : ℕ)
    (begun room : List EventTold) : Type 0 where
  pub counted : at + length left ≡ length numbers
  pub few : events ≤ 2 * at
  pub found : List (ℕ × Event)
  pub events_are : found ++ run from at (wire_chars left) ≡ run start 0 (wire_chars numbers)
  pub stands : place_after from (wire_chars left) ≡ place_after start (wire_chars numbers)
  pub stand : StandIn (events_told found) begun events room

pub ReadsOn-begin : (start : Place) (numbers : List ℕ) (room : List EventTold)
    → ReadsOn start numbers numbers start 0 0 room room
ReadsOn-begin start numbers room = record {
  counted = omega arith;
  few = omega arith;
  found = [];
  events_are = refl;
  stands = refl;
  stand = stand_none room;
}

-- one character more
pub ReadsOn-more : {start : Place} {numbers left rest : List ℕ} {from : Place} {at events : ℕ}
    {begun room room_next : List EventTold} (number events_next : ℕ) (c : Char) (told : Told)
    (new : Framing) → ReadsOn start numbers left from at events begun room
    → left ≡ number ∷ rest → c ≡ wire_char number
    → told ≡ told_of_events (telling_front from (c ∷ [])).step.gives
    → new ≡ framing_after (telling_front from (c ∷ [])).step
    → events_next ≤ events + 2
    → ((before begun : List EventTold) → StandIn before begun events room
    → StandIn (before ++ events_told (placed at
    (listed (events_by told new.ended).first (events_by told new.ended).second)))
    begun events_next room_next)
    → ReadsOn start numbers rest new.place (at + 1) events_next begun room_next
ReadsOn-more {start} {numbers} {left} {rest} {from} {at} {events} {begun} {room} {room_next} number
    events_next c told new h left_is c_is told_is new_is few puts =
    let cs = wire_chars rest in
    let chars : c ∷ cs ≡ wire_chars left =
    ap (λ (x : Char). x ∷ cs) c_is ∙ ap (λ (ns : List ℕ). wire_chars ns) (sym left_is) in
    let gives = (step from c).gives in
    let one = front_of_one from c in
    let size : length left ≡ suc (length rest) = ap length left_is in
    let place_is : new.place ≡ (step from c).place =
    ap (λ (f : Framing). f.place) new_is ∙ ap (λ (s : ReaderStep). s.place) one in
    let given : listed (events_by told new.ended).first (events_by told new.ended).second ≡ gives =
    given_events from (c ∷ []) told new told_is new_is ∙ ap (λ (s : ReaderStep). s.gives) one in
    let ran : placed at gives ++ run new.place (at + 1) cs ≡ run from at (wire_chars left) =
    ap (λ (p : Place). placed at gives ++ run p (at + 1) cs) place_is
    ∙ ap (λ (n : ℕ). placed at gives ++ run (step from c).place n cs) (add-one at)
    ∙ sym (run-cons from at c cs) ∙ ap (run from at) chars in
    record {
      counted = omega (arith, h.counted, size);
      few = omega (arith, h.few, few);
      found = h.found ++ placed at gives;
      events_are = append_assoc h.found (placed at gives) (run new.place (at + 1) cs)
          ∙ ap (λ (es : List (ℕ × Event)). h.found ++ es) ran ∙ h.events_are;
      stands = ap (λ (p : Place). place_after p cs) place_is ∙ sym (place_after-cons from c cs)
          ∙ ap (place_after from) chars ∙ h.stands;
      stand = subst (λ (told : List EventTold). StandIn told begun events_next room_next)
          (ap (λ (es : List Event). events_told h.found ++ events_told (placed at es)) given
          ∙ sym (map-append (λ (e : ℕ × Event). event_told e.0 e.1) h.found (placed at gives)))
          (puts (events_told h.found) begun h.stand);
    }

no_numbers : (numbers : List ℕ) → length numbers ≤ 0 → wire_chars numbers ≡ []
no_numbers [] few = refl
no_numbers (n ∷ ns) few = absurd (omega arith)

-- none is left
pub ReadsOn-end : {start : Place} {numbers left : List ℕ} {from : Place} {at events : ℕ}
    {begun room : List EventTold} → length left ≤ 0
    → ReadsOn start numbers left from at events begun room
    → (from ≡ place_after start (wire_chars numbers))
    × StandIn (events_told (run start 0 (wire_chars numbers))) begun events room
ReadsOn-end {start} {numbers} {left} {from} {at} {events} {begun} {room} few h =
    let none = no_numbers left few in
    let found : h.found ≡ run start 0 (wire_chars numbers) =
    sym (ap (λ (cs : List Char). h.found ++ run from at cs) none
    ∙ ap (λ (es : List (ℕ × Event)). h.found ++ es) (run-none from at) ∙ append-nil h.found)
    ∙ h.events_are in (
      sym (ap (place_after from) none ∙ place_after-none from) ∙ h.stands,
      subst (λ (es : List (ℕ × Event)). StandIn (events_told es) begun events room) found h.stand,
    )

cut_told : (chars : List Char) (rest : Bool) → rest ≡ at_rest (place_after place_start chars)
    → TellsCut chars (cut_number rest)
cut_told chars true is = inr (refl, λ cut. true_is_false (is ∙ (reading_cut chars).0 cut))
  where
    true_is_false : true ≡ false → ⊥
    true_is_false same = cc
cut_told chars false is = inl (refl, (reading_cut chars).1 (sym is))

-- all were read from a start at which nothing is in progress
pub reading_told : (numbers : List ℕ) (begun to : Place) (room room_after : List EventTold)
    (events : ℕ) → begun ≡ place_start → to ≡ place_after begun (wire_chars numbers)
    → StandIn (events_told (run begun 0 (wire_chars numbers))) room events room_after
    → TellsReading (wire_chars numbers) room room_after
    (record { events = events; cut = cut_number (at_rest to) })
reading_told numbers begun to room room_after events start ends stand =
    let chars = wire_chars numbers in
    record {
      events = run place_start 0 chars;
      reads = reading_exists chars;
      stand =
          subst (λ (p : Place). StandIn (events_told (run p 0 chars)) room events room_after) start
          stand;
      cut = cut_told chars (at_rest to)
          (ap at_rest (ends ∙ ap (λ (p : Place). place_after p chars) start));
    }
