-- Runs of a link whose lanes have wrong bits.
use Rattle.std.specs.Prelude.{◌≡◌, ℕ, ◌⊎◌, Bool, true, false, List, [], ◌∷◌, Some, None, take}
use Rattle.rio_chars.specs.CharText.{IsData}
use Rattle.rio_chars.specs.declared.chars.Char.{Char}
use Rattle.rio_chars.specs.declared.chars.Char.TheVariants.{Invalid}
use Rattle.link_port.specs.Prelude.{Event, PortState, IsPort}
use Rattle.link_wires.specs.Deliveries.{Delivered, delivered, undetected}
use Rattle.link_machine.specs.Calls.{pumped, told_from, after_delivery, timed_out_at}
use Rattle.link_machine.specs.Layer.{IsServed, with_port}
use Rattle.link_machine.specs.Prelude.{Side, A, B, LinkState, turned_round, from_end}
use Rattle.lane_faults.specs.Mistakes.{IsMistakenFor}

-- What was heard of a piece of what was sent, as `HeardWithMistakes` has it, and whether the
-- receiver is astray after it. It is what the next piece goes on from.
abbrev pub HeardUpTo : Bool → List Char → List Char → Bool → Type 0
HeardUpTo astray [] heard after = (heard ≡ []) × (after ≡ astray)
HeardUpTo astray (c ∷ sent) [] after = ⊥
HeardUpTo false (c ∷ sent) (h ∷ heard) after =
    ((h ≡ c) × HeardUpTo false sent heard after)
    ⊎ (((h ≡ Invalid) × HeardUpTo false sent heard after)
    ⊎ (IsMistakenFor c h × HeardUpTo true sent heard after))
HeardUpTo true (c ∷ sent) (h ∷ heard) after =
    ((h ≡ Invalid) × HeardUpTo false sent heard after)
    ⊎ ((h ≡ c) × IsData c × HeardUpTo true sent heard after)

-- a link, and for the lane on which each port sends whether its receiver is astray
pub record LaneLink : Type 0 where
  pub link : LinkState
  pub astray_a : Bool
  pub astray_b : Bool

abbrev pub lanes_of : LinkState → LaneLink
lanes_of link = record { link = link; astray_a = false; astray_b = false }

abbrev pub lanes_round : LaneLink → LaneLink
lanes_round s =
    record { link = turned_round s.link; astray_a = s.astray_b; astray_b = s.astray_a }

abbrev pub lanes_from : Side → LaneLink → LaneLink
lanes_from A s = s
lanes_from B s = lanes_round s

-- something is done on the link, and nothing is heard
abbrev pub on_link : LaneLink → LinkState → LaneLink
on_link s link = record s { link = link }

-- What the first port does with what it hears of characters of the far port's wire. They are taken
-- from the wire, whatever was heard of them.
abbrev pub hearing : List Char → LinkState → Delivered
hearing heard s = delivered s.a s.wire_b.kept heard

abbrev pub first_hears : ℕ → List Char → Bool → LaneLink → LaneLink
first_hears count heard after s = record s {
  link = after_delivery count (hearing heard s.link) s.link;
  astray_b = after;
}

abbrev pub lanes_hear : Side → ℕ → List Char → Bool → LaneLink → LaneLink
lanes_hear A count heard after s = first_hears count heard after s
lanes_hear B count heard after s =
    lanes_round (first_hears count heard after (lanes_round s))

-- what this port hears of so many characters, by the lane on which the far port sends
abbrev pub HearsSo : Side → ℕ → List Char → Bool → LaneLink → Type 0
HearsSo to count heard after s =
    HeardUpTo (lanes_from to s).astray_b (take count (lanes_from to s).link.wire_b.chars) heard
    after

-- A run of a link from here on ends with an event that a port acted on and that was not sent:
-- turns, statuses, time-outs, what the layer above does, and deliveries of what was heard, of any
-- length and in any order.
pub data EndsUndetected : LaneLink → Type 0 where
  LanesTurn : {s : LaneLink} (from : Side) (turns : ℕ)
      → EndsUndetected (on_link s (pumped from turns s.link)) → EndsUndetected s
  LanesTell : {s : LaneLink} (from : Side)
      → EndsUndetected (on_link s (told_from from s.link)) → EndsUndetected s
  LanesTimeOut : {s : LaneLink} (side : Side)
      → EndsUndetected (on_link s (timed_out_at side s.link)) → EndsUndetected s
  LanesServe : {s : LaneLink} (side : Side) (next : PortState) → IsPort next
      → IsServed (from_end side s.link).a next
      → EndsUndetected (on_link s (with_port side next s.link)) → EndsUndetected s
  LanesHear : {s : LaneLink} (to : Side) (count : ℕ) (heard : List Char) (after : Bool)
      → HearsSo to count heard after s
      → undetected (hearing heard (lanes_from to s).link) ≡ None
      → EndsUndetected (lanes_hear to count heard after s) → EndsUndetected s
  LanesFind : {s : LaneLink} (to : Side) (count : ℕ) (heard : List Char) (after : Bool) (e : Event)
      → HearsSo to count heard after s
      → undetected (hearing heard (lanes_from to s).link) ≡ Some e → EndsUndetected s
