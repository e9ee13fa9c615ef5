-- Lists of events of which the good ones stand in others.
use Rattle.lane_faults.proofs.Prelude.{ℕ, List, [], ◌∷◌, ◌++◌, Event, Ctl, Pkt, Bad, placed, GoodStandIn, none_stands, bad_is_passed, same_stands, other_is_passed, IsGoodEvent, AreGood}

pub all_stand : (events : List (ℕ × Event)) → GoodStandIn events events
all_stand [] = none_stands
all_stand (event ∷ events) = same_stands event (all_stand events)

more_stand : (front found events : List (ℕ × Event)) → GoodStandIn found events
    → GoodStandIn found (front ++ events)
more_stand [] found events h = h
more_stand (event ∷ front) found events h = other_is_passed event (more_stand front found events h)

pub both_stand : {a b : List (ℕ × Event)} (c d : List (ℕ × Event)) → GoodStandIn a b
    → GoodStandIn c d → GoodStandIn (a ++ c) (b ++ d)
both_stand c d (none_stands {events}) h = more_stand events c d h
both_stand c d (bad_is_passed at cause g) h = bad_is_passed at cause (both_stand c d g h)
both_stand c d (same_stands event g) h = same_stands event (both_stand c d g h)
both_stand c d (other_is_passed event g) h = other_is_passed event (both_stand c d g h)

-- events at one place, and those after it
pub then_stand : (at : ℕ) (here events : List Event) (found others : List (ℕ × Event))
    → GoodStandIn (placed at here) (placed at events) → GoodStandIn found others
    → GoodStandIn (placed at here ++ found) (placed at events ++ others)
then_stand at here events found others g h = both_stand found others g h

-- each of them is bad
abbrev pub AreBad : List Event → Type 0
AreBad [] = Unit {0}
AreBad (Ctl symbol ∷ events) = ⊥
AreBad (Pkt ack packet ∷ events) = ⊥
AreBad (Bad cause ∷ events) = AreBad events

pub bad_stand : (at : ℕ) (events : List Event) (others : List (ℕ × Event)) → AreBad events
    → GoodStandIn (placed at events) others
bad_stand at [] others h = none_stands
bad_stand at (Bad cause ∷ events) others h = bad_is_passed at cause (bad_stand at events others h)
bad_stand at (_ ∷ events) others h = absurd h

-- none of them is bad
abbrev pub NoneBad : List Event → Type 0
NoneBad [] = Unit {0}
NoneBad (event ∷ events) = IsGoodEvent event × NoneBad events

pub good_parts : (at : ℕ) (events : List Event) (more : List (ℕ × Event))
    → AreGood (placed at events ++ more) → NoneBad events × AreGood more
good_parts at [] more h = (tt, h)
good_parts at (event ∷ events) more h =
    let rest = good_parts at events more h.1 in ((h.0, rest.0), rest.1)

-- a good event stands in no empty list
pub none_in_none : (at : ℕ) (event : Event) → IsGoodEvent event
    → GoodStandIn ((at, event) ∷ []) [] → ⊥
none_in_none at event good (bad_is_passed _ cause h) = good
