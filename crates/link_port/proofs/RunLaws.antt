-- What a run of characters completes.
use Rattle.std.proofs.Common.{◌≡◌, List, [], ◌∷◌, take, refl, sym, ap, ◌∙◌, subst}
use Rattle.link_model.specs.Prelude.{Char, Place, IsBounded, telling_front}
use Rattle.link_model.specs.declared.event.Event.{Event}
use Rattle.link_model.specs.declared.event.Event.TheVariants.{Ctl, Pkt, Bad}
use Rattle.link_model.specs.Places.{AreGiven}
use Rattle.link_model.proofs.PlacesBounds.{after_all}
use Rattle.link_model.proofs.FrontLaws.{front-place, front-given}
use Rattle.rio_framer.specs.declared.events.Events.{Events}
use Rattle.rio_framer.specs.Framing.{ended_of}
use Rattle.rio_framer.specs.Giving.{listed, events_by, told_of_events}
use Rattle.rio_framer.proofs.GivingLaws.{events_by-front, listed-front}
use Rattle.link_port.specs.Runs.{HasEnded}

-- a packet in progress stays within its bound
pub front_bounded : (from : Place) (cs : List Char) → IsBounded from.text
    → IsBounded (telling_front from cs).step.place.text
front_bounded from cs is =
    subst (λ (p : Place). IsBounded p.text) (sym (front-place from cs))
    (after_all from (take (telling_front from cs).count cs) is)

has_ended : (es : List Event) → AreGiven es → HasEnded (told_of_events es) (ended_of es)
has_ended [] are = tt
has_ended (Ctl symbol ∷ []) are = tt
has_ended (Pkt ack packet ∷ []) are = tt
has_ended (Bad cause ∷ []) are = tt
has_ended (e ∷ x ∷ []) (bytes, s, first, is, either) = rw is refl
has_ended (e ∷ x ∷ y ∷ es) are = absurd are

-- where the framer tells that a packet ended, it has it
pub front_ended : (from : Place) (cs : List Char)
    → HasEnded (told_of_events (telling_front from cs).step.gives)
    (ended_of (telling_front from cs).step.gives)
front_ended from cs = has_ended (telling_front from cs).step.gives (front-given from cs)

-- what the framer tells, and the packet that ended, are all that is given
pub front_events : (from : Place) (cs : List Char)
    → listed (events_by (told_of_events (telling_front from cs).step.gives)
    (ended_of (telling_front from cs).step.gives)).first
    (events_by (told_of_events (telling_front from cs).step.gives)
    (ended_of (telling_front from cs).step.gives)).second ≡ (telling_front from cs).step.gives
front_events from cs =
    ap (λ (e : Events). listed e.first e.second) (events_by-front from cs) ∙ listed-front from cs
