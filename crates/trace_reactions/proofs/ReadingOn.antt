-- What a port gets, run of characters by run.
use Rattle.std.proofs.Common.{◌≡◌, ℕ, suc, ◌+◌, ◌-◌, ◌<◌, ◌≤◌, ◌++◌, List, [], ◌∷◌, map, length, take, drop, refl, sym, ap, ◌∙◌, arith, take-append-drop}
use Rattle.std.proofs.lemmas.List.{map-append}
use Rattle.rio_chars.specs.declared.chars.Char.{Char}
use Rattle.link_model.specs.declared.event.Event.{Event}
use Rattle.link_model.specs.Fronts.{telling_front}
use Rattle.link_model.specs.Places.{Place, place_after, run}
use Rattle.link_model.specs.Reading.{placed}
use Rattle.link_model.specs.Said.{said}
use Rattle.link_model.proofs.FrontLaws.{front-place, front-some, run-telling_front}
use Rattle.link_model.proofs.PlacesLaws.{events_of, moved, place_after-append, place_after-none, placed_away, run-moved, run-none}
use Rattle.rio_framer.specs.declared.events.Events.{Events}
use Rattle.rio_framer.specs.declared.events.Told.{Told}
use Rattle.rio_framer.specs.Framing.{Framing, framing_after}
use Rattle.rio_framer.specs.Giving.{listed, told_of_events}
use Rattle.rio_framer.proofs.GivingLaws.{events_by-front, listed-front}
use Rattle.trace_reactions.specs.InputHalves.{events_of_told, InputKept, after_one_event, after_events}
use Rattle.trace_reactions.specs.PortsKept.{after_got, PortKept}

-- ---- events and places

events_moved : (n : ℕ) (es : List (ℕ × Event)) → events_of (map (moved n) es) ≡ events_of es
events_moved n [] = refl
events_moved n (e ∷ es) = ap (λ (l : List Event). e.1 ∷ l) (events_moved n es)

-- the place of the first character says nothing of the events
events_at : (from : Place) (at : ℕ) (chars : List Char)
    → events_of (run from at chars) ≡ said from chars
events_at from at chars =
    let here : at ≡ 0 + at = omega arith in
    ap (λ (n : ℕ). events_of (run from n chars)) here
    ∙ ap events_of (run-moved from 0 at chars)
    ∙ events_moved at (run from 0 chars)

-- all events are those of the front and those of the characters behind it
pub said_front : (from : Place) (chars : List Char) → 0 < length chars
    → said from chars ≡ (telling_front from chars).step.gives
    ++ said (telling_front from chars).step.place (drop (telling_front from chars).count chars)
said_front from chars some =
    let front = telling_front from chars in
    let rest = drop front.count chars in
    let n = front.count - 1 in
    let few = front-some from chars some in
    let count : 0 + front.count ≡ suc n = omega (arith, few) in
    ap events_of (run-telling_front from 0 n chars count)
    ∙ map-append (λ (p : ℕ × Event). p.1) (placed n front.step.gives)
    (run front.step.place (suc n) rest)
    ∙ (λ i. placed_away n front.step.gives i ++ events_at front.step.place (suc n) rest i)

pub place_front : (from : Place) (chars : List Char)
    → place_after from chars ≡ place_after (telling_front from chars).step.place
    (drop (telling_front from chars).count chars)
place_front from chars =
    let count = (telling_front from chars).count in
    ap (place_after from) (sym (take-append-drop count chars))
    ∙ place_after-append from (take count chars) (drop count chars)
    ∙ ap (λ place. place_after place (drop count chars)) (sym (front-place from chars))

pub said_none : (from : Place) (left : List Char) → length left ≤ 0 → said from left ≡ []
said_none from [] few = ap events_of (run-none from 0)
said_none from (c ∷ left) few = absurd (omega (arith, few))

pub place_none : (from : Place) (left : List Char) → length left ≤ 0 → place_after from left ≡ from
place_none from [] few = place_after-none from
place_none from (c ∷ left) few = absurd (omega (arith, few))

-- ---- what a run of characters tells

-- A framer took a run of characters from where it stood, and these are left.
pub record TakesRun (from : Place) (chars left : List Char) (told : Told) (framer : Framing) :
    Type 0 where
  pub some : 0 < length chars
  pub told_is : told ≡ told_of_events (telling_front from chars).step.gives
  pub framer_is : framer ≡ framing_after (telling_front from chars).step
  pub left_is : left ≡ drop (telling_front from chars).count chars

module _ {from : Place} {chars left : List Char} {told : Told} {framer : Framing} where
  pub events_on : TakesRun from chars left told framer
      → events_of_told told framer.ended ≡ (telling_front from chars).step.gives
  events_on run =
      (λ i. events_of_told (run.told_is i) (run.framer_is i).ended)
      ∙ ap (λ (e : Events). listed e.first e.second) (events_by-front from chars)
      ∙ listed-front from chars

  pub said_on : TakesRun from chars left told framer
      → said from chars ≡ events_of_told told framer.ended ++ said framer.place left
  said_on run =
      said_front from chars run.some
      ∙ (λ i. sym (events_on run) i ++ said (sym run.framer_is i).place (sym run.left_is i))

  pub place_on : TakesRun from chars left told framer
      → place_after from chars ≡ place_after framer.place left
  place_on run =
      place_front from chars ∙ (λ i. place_after (sym run.framer_is i).place (sym run.left_is i))

-- ---- a port

takes-append : (xs ys : List Event) (kept : InputKept)
    → after_events kept (xs ++ ys) ≡ after_events (after_events kept xs) ys
takes-append [] ys kept = refl
takes-append (x ∷ xs) ys kept = takes-append xs ys (after_one_event kept x)

-- a run of characters is taken, and then those behind it
pub hears_on : (port : PortKept) (chars left : List Char) (told : Told) (framer : Framing)
    → TakesRun port.hearing chars left told framer
    → after_got (record {
      hearing = framer.place;
      sending = port.sending;
      input = after_events port.input (events_of_told told framer.ended);
    }) left ≡ after_got port chars
hears_on port chars left told framer run = λ i. record {
  hearing = sym (place_on run) i;
  sending = port.sending;
  input = (sym (takes-append (events_of_told told framer.ended) (said framer.place left) port.input)
      ∙ ap (after_events port.input) (sym (said_on run))) i;
}

-- after no characters
pub hears_none : (port : PortKept) (left : List Char) → length left ≤ 0 → after_got port left ≡ port
hears_none port left few = λ i. record {
  hearing = place_none port.hearing left few i;
  sending = port.sending;
  input = ap (after_events port.input) (said_none port.hearing left few) i;
}
