-- What a port acts on of what it hears was sent.
use Rattle.lane_faults.proofs.Prelude.{ℕ, Bool, true, false, List, [], ◌∷◌, ◌++◌, map, if◌then◌else◌, Event, Bad, PortState, acts, is_acted, IsSubsequence, EndsWithin, TakesWithin, SkipsWithin, GoodStandIn, none_stands, bad_is_passed, same_stands, other_is_passed}
use Rattle.link_wires.specs.Acting.{acted_all}

-- events without their places
abbrev pub without_places : List (ℕ × Event) → List Event
without_places events = map (λ (event : ℕ × Event). event.1) events

none_within : (events : List Event) → IsSubsequence [] events
none_within [] = EndsWithin
none_within (event ∷ events) = SkipsWithin event (none_within events)

acted_or_not : (acted : Bool) (event : Event) (found events : List Event)
    → IsSubsequence found events
    → IsSubsequence ((if acted then event ∷ [] else []) ++ found) (event ∷ events)
acted_or_not true event found events h = TakesWithin event h
acted_or_not false event found events h = SkipsWithin event h

pub acted_within : (port : PortState) {found events : List (ℕ × Event)}
    → GoodStandIn found events
    → IsSubsequence (acted_all port (without_places found)) (without_places events)
acted_within port (none_stands {events}) = none_within (without_places events)
acted_within port (bad_is_passed at cause h) = acted_within (acts port (Bad cause)).port h
acted_within port (same_stands {found} {events} event h) =
    acted_or_not (is_acted port event.1) event.1
    (acted_all (acts port event.1).port (without_places found)) (without_places events)
    (acted_within (acts port event.1).port h)
acted_within port (other_is_passed event h) = SkipsWithin event.1 (acted_within port h)
