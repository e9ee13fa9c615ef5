-- Which events of one list stand in another.
use Rattle.std.specs.Prelude.{ℕ, Bool, true, false, List, [], ◌∷◌}
use Rattle.rio_packets.specs.declared.cause.Cause.{Cause}
use Rattle.link_model.specs.declared.event.Event.{Event}
use Rattle.link_model.specs.declared.event.Event.TheVariants.{Ctl, Pkt, Bad}

-- Each event of the first list, but for those that are bad, stands in the second at the same place,
-- in the same order.
pub data GoodStandIn : List (ℕ × Event) → List (ℕ × Event) → Type 0 where
  none_stands : {events : List (ℕ × Event)} → GoodStandIn [] events
  bad_is_passed : {found events : List (ℕ × Event)} (at : ℕ) (cause : Cause)
      → GoodStandIn found events → GoodStandIn ((at, Bad cause) ∷ found) events
  same_stands : {found events : List (ℕ × Event)} (event : ℕ × Event)
      → GoodStandIn found events → GoodStandIn (event ∷ found) (event ∷ events)
  other_is_passed : {found events : List (ℕ × Event)} (event : ℕ × Event)
      → GoodStandIn found events → GoodStandIn found (event ∷ events)

-- none is bad
abbrev pub IsGoodEvent : Event → Type 0
IsGoodEvent (Ctl symbol) = Unit {0}
IsGoodEvent (Pkt ack packet) = Unit {0}
IsGoodEvent (Bad cause) = ⊥

abbrev pub AreGood : List (ℕ × Event) → Type 0
AreGood [] = Unit {0}
AreGood (event ∷ events) = IsGoodEvent event.1 × AreGood events
