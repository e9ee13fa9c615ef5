-- The events of a step as a list of at most two, and how each function of the framer comes to them.
use Rattle.std.proofs.Common.{◌≡◌, List, [], ◌∷◌, refl}
use Rattle.link_model.specs.Prelude.{Char, Place, step, telling_front}
use Rattle.link_model.specs.declared.event.Event.{Event}
use Rattle.link_model.specs.declared.event.Event.TheVariants.{Ctl, Pkt, Bad}
use Rattle.link_model.specs.Places.{AreGiven}
use Rattle.link_model.proofs.PlacesLaws.{given}
use Rattle.link_model.proofs.FrontLaws.{front-given}
use Rattle.rio_framer.specs.Giving.{listed, events_given, told_of_events, events_by, IsPaired}
use Rattle.rio_framer.specs.Framing.{ended_of}
use Rattle.rio_framer.specs.declared.events.Told.TheVariants as told

listed-events : (es : List Event) → AreGiven es
    → listed (events_given es).first (events_given es).second ≡ es
listed-events [] h = refl
listed-events (e ∷ []) h = refl
listed-events (e ∷ x ∷ []) (bytes, s, first, is, either) = rw is refl
listed-events (e ∷ x ∷ y ∷ es) h = absurd h

paired-events : (es : List Event) → AreGiven es
    → IsPaired (events_given es).first (events_given es).second
paired-events [] h = tt
paired-events (e ∷ []) h = tt
paired-events (e ∷ x ∷ []) (bytes, s, first, is, either) = rw is ((bytes, first), either)
paired-events (e ∷ x ∷ y ∷ es) h = absurd h

-- all that one character tells is in its events
pub listed-step : (from : Place) (c : Char)
    → listed (events_given (step from c).gives).first (events_given (step from c).gives).second
    ≡ (step from c).gives
listed-step from c = listed-events (step from c).gives (given from c)

pub paired-step : (from : Place) (c : Char)
    → IsPaired (events_given (step from c).gives).first (events_given (step from c).gives).second
paired-step from c = paired-events (step from c).gives (given from c)

-- an outcome and the packet that ended are all that is given
pub events_by-given : (es : List Event) → AreGiven es
    → events_by (told_of_events es) (ended_of es) ≡ events_given es
events_by-given [] h = refl
events_by-given (Ctl symbol ∷ []) h = refl
events_by-given (Pkt ack packet ∷ []) h = absurd h
events_by-given (Bad cause ∷ []) h = refl
events_by-given (e ∷ x ∷ []) (bytes, s, first, is, either) = rw is refl
events_by-given (e ∷ x ∷ y ∷ es) h = absurd h

pub events_by-step : (from : Place) (c : Char)
    → events_by (told_of_events (step from c).gives) (ended_of (step from c).gives)
    ≡ events_given (step from c).gives
events_by-step from c = events_by-given (step from c).gives (given from c)

pub events_by-front : (from : Place) (cs : List Char)
    → events_by (told_of_events (telling_front from cs).step.gives)
    (ended_of (telling_front from cs).step.gives) ≡ events_given (telling_front from cs).step.gives
events_by-front from cs = events_by-given (telling_front from cs).step.gives (front-given from cs)

pub listed-front : (from : Place) (cs : List Char)
    → listed (events_given (telling_front from cs).step.gives).first
    (events_given (telling_front from cs).step.gives).second ≡ (telling_front from cs).step.gives
listed-front from cs = listed-events (telling_front from cs).step.gives (front-given from cs)

pub paired-front : (from : Place) (cs : List Char)
    → IsPaired (events_given (telling_front from cs).step.gives).first
    (events_given (telling_front from cs).step.gives).second
paired-front from cs = paired-events (telling_front from cs).step.gives (front-given from cs)

-- where nothing is told, nothing is given
quiet : (es : List Event) → AreGiven es → told_of_events es ≡ told.Nothing → es ≡ []
quiet [] h e = refl
quiet (Ctl symbol ∷ []) h e = cc
quiet (Pkt ack packet ∷ []) h e = absurd h
quiet (Bad cause ∷ []) h e = cc
quiet (e ∷ x ∷ []) (bytes, s, first, is, either) none =
    absurd (let ends : told.Ends s ≡ told.Nothing = rw is at none in cc)
quiet (e ∷ x ∷ y ∷ es) h none = absurd h

pub quiet-step : (from : Place) (c : Char) → told_of_events (step from c).gives ≡ told.Nothing
    → (step from c).gives ≡ []
quiet-step from c none = quiet (step from c).gives (given from c) none
