-- What a port has got, run of characters by run, and packet by packet.
use Rattle.std.proofs.Common.{◌≡◌, ℕ, ◌≤◌, ◌++◌, List, [], ◌∷◌, map, length, take, drop, refl, sym, ap, ◌∙◌, arith, append_assoc, take-append-drop}
use Rattle.std.proofs.lemmas.List.{append-nil}
use Rattle.rio_chars.specs.declared.chars.Char.{Char}
use Rattle.link_model.specs.declared.event.Event.{Event}
use Rattle.link_model.specs.Fronts.{front_by, telling_front}
use Rattle.link_model.specs.Places.{Place, place_after, step}
use Rattle.link_model.specs.Reading.{placed}
use Rattle.link_model.specs.Said.{said}
use Rattle.link_model.proofs.FrontLaws.{front-place}
use Rattle.link_model.proofs.PlacesLaws.{place_after-append, place_after-cons, place_after-none, run-none, run-one}
use Rattle.link_machine.proofs.Settling.SaidLaws.{said-append}
use Rattle.rio_framer.specs.declared.events.Events.{Events}
use Rattle.rio_framer.specs.declared.events.Told.{Told}
use Rattle.rio_framer.specs.Framing.{Framing, framing_after}
use Rattle.rio_framer.specs.Giving.{listed, told_of_events}
use Rattle.rio_framer.proofs.GivingLaws.{events_by-front, listed-front}
use Rattle.fabric_trace.specs.Allowance.{raised_all}
use Rattle.fabric_trace.proofs.Allowance.Raising.{raised-append}
use Rattle.trace_check.specs.Running.{Come, run_hears, notes, packets_come, PortRun, told_events}
use Rattle.trace_check.proofs.Running.{packets-append}

-- ---- a run of characters

events_alone : (at : ℕ) (events : List Event)
    → map (λ (event : ℕ × Event). event.1) (placed at events) ≡ events
events_alone at [] = refl
events_alone at (e ∷ events) = ap (λ (l : List Event). e ∷ l) (events_alone at events)

said-cons : (from : Place) (c : Char) (chars : List Char)
    → said from (c ∷ chars) ≡ (step from c).gives ++ said (step from c).place chars
said-cons from c chars =
    let one : said from (c ∷ []) ≡ (step from c).gives
    = ap (map (λ (event : ℕ × Event). event.1)) (run-one from 0 c)
    ∙ events_alone 0 (step from c).gives in
    let place : place_after from (c ∷ []) ≡ (step from c).place
    = place_after-cons from c [] ∙ place_after-none (step from c).place in
    said-append from (c ∷ []) chars ∙ (λ i. one i ++ said (place i) chars)

-- all events are those of the front and those of the characters behind it
said-front : (from : Place) (chars : List Char)
    → said from chars ≡ (telling_front from chars).step.gives
    ++ said (telling_front from chars).step.place (drop (telling_front from chars).count chars)
unfolding telling_front
said-front from [] = refl
said-front from (c ∷ chars) =
    said-cons from c chars
    ∙ by_gives (step from c).gives refl (said-front (step from c).place chars)
  where
    by_gives : (es : List Event) → (step from c).gives ≡ es
        → said (step from c).place chars
        ≡ (telling_front (step from c).place chars).step.gives
        ++ said (telling_front (step from c).place chars).step.place
        (drop (telling_front (step from c).place chars).count chars)
        → (step from c).gives ++ said (step from c).place chars
        ≡ (front_by es (step from c) (telling_front (step from c).place chars)).step.gives
        ++ said (front_by es (step from c) (telling_front (step from c).place chars)).step.place
        (drop (front_by es (step from c) (telling_front (step from c).place chars)).count
        (c ∷ chars))
    by_gives [] is behind =
        ap (λ (l : List Event). l ++ said (step from c).place chars) is ∙ behind
    by_gives (e ∷ es) is behind = refl

place-front : (from : Place) (chars : List Char)
    → place_after from chars ≡ place_after (telling_front from chars).step.place
    (drop (telling_front from chars).count chars)
place-front from chars =
    let count = (telling_front from chars).count in
    ap (place_after from) (sym (take-append-drop count chars))
    ∙ place_after-append from (take count chars) (drop count chars)
    ∙ ap (λ place. place_after place (drop count chars)) (sym (front-place from chars))

-- what is known after the front, and then the characters behind it
hears-front : (run : PortRun) (chars : List Char)
    → run_hears run chars
    ≡ run_hears (record (notes run (telling_front run.place chars).step.gives)
    { place = (telling_front run.place chars).step.place })
    (drop (telling_front run.place chars).count chars)
hears-front run chars =
    let front = telling_front run.place chars in
    let rest = said front.step.place (drop front.count chars) in
    let events = said-front run.place chars in
    let come : run.unheld ++ packets_come (said run.place chars)
    ≡ (run.unheld ++ packets_come front.step.gives) ++ packets_come rest
    = ap (λ (l : List Event). run.unheld ++ packets_come l) events
    ∙ ap (λ (l : List Come). run.unheld ++ l) (packets-append front.step.gives rest)
    ∙ sym (append_assoc run.unheld (packets_come front.step.gives) (packets_come rest)) in
    let allowed : raised_all run.allowed (said run.place chars)
    ≡ raised_all (raised_all run.allowed front.step.gives) rest
    = ap (raised_all run.allowed) events ∙ raised-append front.step.gives rest run.allowed in
    λ i. record {
      place = place-front run.place chars i;
      unheld = come i;
      next = run.next;
      freed = run.freed;
      allowed = allowed i;
    }

told-front : (from : Place) (chars : List Char) (told : Told) (framer : Framing)
    → told ≡ told_of_events (telling_front from chars).step.gives
    → framer ≡ framing_after (telling_front from chars).step
    → told_events told framer.ended ≡ (telling_front from chars).step.gives
told-front from chars told framer told_is framer_is =
    (λ i. told_events (told_is i) (framer_is i).ended)
    ∙ ap (λ (e : Events). listed e.first e.second) (events_by-front from chars)
    ∙ listed-front from chars

-- what a run of characters told, and then what those behind it say
pub said_on : (from : Place) (chars left : List Char) (told : Told) (framer : Framing)
    → told ≡ told_of_events (telling_front from chars).step.gives
    → framer ≡ framing_after (telling_front from chars).step
    → left ≡ drop (telling_front from chars).count chars
    → said from chars ≡ told_events told framer.ended ++ said framer.place left
said_on from chars left told framer told_is framer_is left_is =
    let events = told-front from chars told framer told_is framer_is in
    said-front from chars
    ∙ (λ i. sym events i ++ said (sym framer_is i).place (sym left_is i))

-- a run of characters is read, and what it told is noted
pub hears_on : (run next : PortRun) (chars left : List Char) (told : Told) (framer : Framing)
    → told ≡ told_of_events (telling_front run.place chars).step.gives
    → framer ≡ framing_after (telling_front run.place chars).step
    → left ≡ drop (telling_front run.place chars).count chars
    → next ≡ notes (record run { place = framer.place }) (told_events told framer.ended)
    → run_hears next left ≡ run_hears run chars
hears_on run next chars left told framer told_is framer_is left_is next_is =
    let events = told-front run.place chars told framer told_is framer_is in
    (λ i. run_hears (next_is i) (left_is i))
    ∙ (λ i. run_hears (notes (record run { place = (framer_is i).place }) (events i))
    (drop (telling_front run.place chars).count chars))
    ∙ sym (hears-front run chars)

said-none : (from : Place) → said from [] ≡ []
said-none from = ap (map (λ (event : ℕ × Event). event.1)) (run-none from 0)

pub said_none : (from : Place) (left : List Char) → length left ≤ 0 → said from left ≡ []
said_none from [] few = said-none from
said_none from (c ∷ left) few = absurd (omega (arith, few))

-- after no characters
pub hears_none : (run : PortRun) (left : List Char) → length left ≤ 0 → run_hears run left ≡ run
hears_none run [] few = λ i. record {
  place = place_after-none run.place i;
  unheld = (ap (λ (l : List Event). run.unheld ++ packets_come l) (said-none run.place)
      ∙ append-nil run.unheld) i;
  next = run.next;
  freed = run.freed;
  allowed = ap (raised_all run.allowed) (said-none run.place) i;
}
hears_none run (c ∷ left) few = absurd (omega (arith, few))
