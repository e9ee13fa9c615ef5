-- Runs of a link whose lanes have wrong bits: none ends with an event that was not sent.
use Rattle.lane_faults.proofs.Prelude.{◌≡◌, ℕ, Bool, true, false, if◌then◌else◌, List, [], ◌∷◌, length, take, ◌&&◌, Option, Some, None, refl, sym, ap, subst, arith, and_parts, le-leb, Char, Place, at_rest, run, place_after, Event, PortState, IsPort, tell_sends, timed_out, Flow, Delivered, Through, WentUndetected, told_of, delivered, undetected, port_turned, bursts, answers, AreAnswers, turned_is, turns_read, turns_delimited, tell_read, tell_delimited, answers_are_read, answers_delimited, HeardUpTo, LaneLink, lanes_of, lanes_round, lanes_from, on_link, hearing, first_hears, lanes_hear, HearsSo, EndsUndetected, LanesTurn, LanesTell, LanesTimeOut, LanesServe, LanesHear, LanesFind, sub_none}
use Rattle.link_port.specs.Ports.{new_port}
use Rattle.link_sound.specs.Histories.{AreBuffers}
use Rattle.link_wires.proofs.Throughs.{through_place}
use Rattle.link_machine.specs.Calls.{first_turns, pumped, first_tells, told_from, after_delivery, first_takes, has_none, is_silent, first_fires, timed_out_at}
use Rattle.link_machine.specs.Layer.{IsServed, with_port}
use Rattle.link_machine.specs.Prelude.{Side, A, B, IsSoundLink, LinkState, turned_round, at_end, from_end}
use Rattle.link_machine.specs.States.{link, empty_wires}
use Rattle.link_machine.proofs.Machine.{new_sound, round_keeps, pump_keeps, told_keeps, delivery_keeps, fired_keeps, layer_keeps}
use Rattle.link_machine.proofs.Settling.AnswerLaws.{port_narrow}
use Rattle.lane_faults.proofs.FairLaws.{good_turns, good_tell, good_answers, IsFairWay, fair_sent, fair_at, fair_silent, fair_heard}
use Rattle.lane_faults.proofs.LeadLaws.{StandAt}
use Rattle.lane_faults.proofs.ReaderLaws.{level_with}
use Rattle.link_machine.proofs.Settling.Replies.{delivered_answers}

-- both ways of a sound link
pub record IsFair (s : LaneLink) : Type 0 where
  pub sound : IsSoundLink s.link
  pub to_b : IsFairWay s.astray_a s.link.b s.link.wire_a
  pub to_a : IsFairWay s.astray_b s.link.a s.link.wire_b

fair_round : (s : LaneLink) → IsFair s → IsFair (lanes_round s)
fair_round s fair = record {
  sound = round_keeps s.link fair.sound;
  to_b = fair.to_a;
  to_a = fair.to_b;
}

fair_from : (side : Side) (s : LaneLink) → IsFair s → IsFair (lanes_from side s)
fair_from A s fair = fair
fair_from B s fair = fair_round s fair

-- ---- turns and statuses

abbrev WaysAreFair : LaneLink → LinkState → Type 0
WaysAreFair s next =
    IsFairWay s.astray_a next.b next.wire_a × IsFairWay s.astray_b next.a next.wire_b

turns_fair : (n : ℕ) (s : LaneLink) → IsFair s → WaysAreFair s (first_turns n s.link)
turns_fair n s fair =
    let port = s.link.a in (
      fair_sent s.astray_a s.link.b s.link.wire_a (bursts n port)
          (turns_read n port fair.sound.port_a) (turns_delimited n port) (good_turns n port)
          fair.to_b,
      fair_at s.astray_b port (port_turned n port) s.link.wire_b
          (ap (λ (p : PortState). p.place) (turned_is n port)) fair.to_a,
    )

pump_fair : (from : Side) (n : ℕ) (s : LaneLink) → IsFair s
    → IsFair (on_link s (pumped from n s.link))
pump_fair A n s fair =
    let ways = turns_fair n s fair in
    record { sound = pump_keeps A n s.link fair.sound; to_b = ways.0; to_a = ways.1 }
pump_fair B n s fair =
    let ways = turns_fair n (lanes_round s) (fair_round s fair) in
    record { sound = pump_keeps B n s.link fair.sound; to_b = ways.1; to_a = ways.0 }

tells_fair : (s : LaneLink) → IsFair s → WaysAreFair s (first_tells s.link)
tells_fair s fair =
    let port = s.link.a in (
      fair_sent s.astray_a s.link.b s.link.wire_a (tell_sends port)
          (tell_read port fair.sound.port_a) (tell_delimited port) (good_tell port) fair.to_b,
      fair.to_a,
    )

tell_fair : (from : Side) (s : LaneLink) → IsFair s
    → IsFair (on_link s (told_from from s.link))
tell_fair A s fair =
    let ways = tells_fair s fair in
    record { sound = told_keeps A s.link fair.sound; to_b = ways.0; to_a = ways.1 }
tell_fair B s fair =
    let ways = tells_fair (lanes_round s) (fair_round s fair) in
    record { sound = told_keeps B s.link fair.sound; to_b = ways.1; to_a = ways.0 }

-- ---- time-outs

no_chars_left : (chars : List Char) → has_none chars ≡ true → chars ≡ []
no_chars_left [] is = refl
no_chars_left (c ∷ chars) is = absurd cc

fires_fair : (s : LaneLink) → is_silent s.link ≡ true → IsFair s
    → WaysAreFair s (first_fires s.link)
fires_fair s silent fair =
    let both = and_parts (has_none s.link.wire_a.chars) (has_none s.link.wire_b.chars) silent in (
      fair_silent s.astray_a s.link.b s.link.b s.link.wire_a refl
          (no_chars_left s.link.wire_a.chars both.0) fair.to_b,
      fair_silent s.astray_b s.link.a (timed_out s.link.a) s.link.wire_b refl
          (no_chars_left s.link.wire_b.chars both.1) fair.to_a,
    )

fire_ways : (side : Side) (s : LaneLink) → IsFair s → WaysAreFair s (timed_out_at side s.link)
fire_ways side s fair = by_test (is_silent s.link) refl side
  where
    round_silent : is_silent s.link ≡ true → is_silent (turned_round s.link) ≡ true
    round_silent is =
        let both = and_parts (has_none s.link.wire_a.chars) (has_none s.link.wire_b.chars) is in
        (λ i. both.1 i && both.0 i)

    by_test : (b : Bool) → is_silent s.link ≡ b → (side : Side)
        → WaysAreFair s (if b then at_end side first_fires s.link else s.link)
    by_test true is A = fires_fair s is fair
    by_test true is B =
        let ways = fires_fair (lanes_round s) (round_silent is) (fair_round s fair) in
        (ways.1, ways.0)
    by_test false is side = (fair.to_b, fair.to_a)

fire_fair : (side : Side) (s : LaneLink) → IsFair s
    → IsFair (on_link s (timed_out_at side s.link))
fire_fair side s fair =
    let ways = fire_ways side s fair in
    record { sound = fired_keeps side s.link fair.sound; to_b = ways.0; to_a = ways.1 }

-- ---- the layer above

serve_fair : (side : Side) (next : PortState) (s : LaneLink) → IsPort next
    → IsServed (from_end side s.link).a next → IsFair s
    → IsFair (on_link s (with_port side next s.link))
serve_fair A next s is served fair = record {
  sound = layer_keeps A next s.link is served fair.sound;
  to_b = fair.to_b;
  to_a = fair_at s.astray_b s.link.a next s.link.wire_b (sym served.alike.1) fair.to_a;
}
serve_fair B next s is served fair = record {
  sound = layer_keeps B next s.link is served fair.sound;
  to_b = fair_at s.astray_a s.link.b next s.link.wire_a (sym served.alike.1) fair.to_b;
  to_a = fair.to_a;
}

-- ---- deliveries

taken_whole : (chars : List Char) → take (length chars) chars ≡ chars
taken_whole [] = refl
taken_whole (c ∷ chars) = ap (λ (l : List Char). c ∷ l) (taken_whole chars)

-- the same link, with these characters on the far port's wire
abbrev with_heard : List Char → LinkState → LinkState
with_heard heard s = record s { wire_b = record s.wire_b { chars = heard } }

sound_with : (heard : List Char) (s : LinkState) → IsSoundLink s → IsSoundLink (with_heard heard s)
sound_with heard s l = record {
  port_a = l.port_a;
  port_b = l.port_b;
  sound = l.sound;
  told_b = l.told_b;
  told_a = l.told_a;
}

taken_sound : (heard : List Char) (s : LinkState) → IsSoundLink s
    → IsSoundLink (first_takes (length heard) (with_heard heard s))
taken_sound heard s l =
    let t = with_heard heard s in
    subst (λ (b : Bool). IsSoundLink (if b then first_takes (length heard) t else t))
    (le-leb (length heard) (length heard) (omega arith))
    (delivery_keeps B (length heard) t (sound_with heard s l))

-- characters are nothing to soundness
other_count : (m n : ℕ) (d : Delivered) (heard : List Char) (s : LinkState) → IsSoundLink s
    → IsSoundLink (after_delivery m d (with_heard heard s)) → IsSoundLink (after_delivery n d s)
other_count m n (Through flow) heard s was l = record {
  port_a = l.port_a;
  port_b = l.port_b;
  sound = l.sound;
  told_b = l.told_b;
  told_a = l.told_a;
}
other_count m n (WentUndetected told e) heard s was l = was

hearing_sound : (n : ℕ) (heard : List Char) (s : LinkState) → IsSoundLink s
    → IsSoundLink (after_delivery n (hearing heard s) s)
hearing_sound n heard s l =
    other_count (length heard) n (hearing heard s) heard s l
    (subst (λ (cs : List Char). IsSoundLink (after_delivery (length heard)
    (delivered s.a s.wire_b.kept cs) (with_heard heard s))) (taken_whole heard)
    (taken_sound heard s l))

replies_are_answers : (port : PortState) (kept : List Event) (chars : List Char) (flow : Flow)
    → IsPort port → delivered port kept chars ≡ Through flow → AreAnswers flow.told.replies
replies_are_answers port kept chars flow is through =
    subst (λ (d : Delivered). AreAnswers (told_of d).replies) through
    (delivered_answers port kept chars (port_narrow port is))

-- the first port hears, and nothing goes undetected
record HearsOn (count : ℕ) (heard : List Char) (after : Bool) (s : LaneLink) : Type 0 where
  flow : Flow
  through : hearing heard s.link ≡ Through flow
  fair : IsFair (first_hears count heard after s)

hears_on : (count : ℕ) (heard : List Char) (after : Bool) (s : LaneLink) → IsFair s
    → HeardUpTo s.astray_b (take count s.link.wire_b.chars) heard after
    → HearsOn count heard after s
hears_on count heard after s fair h =
    let port = s.link.a in
    let way = fair_heard s.astray_b after count port s.link.wire_b heard fair.to_a h in
    let flow = way.flow in
    let place : flow.port.place ≡ place_after port.place heard =
    through_place port s.link.wire_b.kept heard flow way.through in
    let replies = replies_are_answers port s.link.wire_b.kept heard flow fair.sound.port_a
    way.through in
    let sent = flow.told.replies in
    let next : LaneLink = record {
      link = after_delivery count (Through flow) s.link;
      astray_a = s.astray_a;
      astray_b = after;
    } in
    let done : IsFair next = record {
      sound =
          subst (λ d. IsSoundLink (after_delivery count d s.link)) way.through
          (hearing_sound count heard s.link fair.sound);
      to_b =
          fair_sent s.astray_a s.link.b s.link.wire_a (answers sent)
          (answers_are_read sent replies) (answers_delimited sent) (good_answers sent) fair.to_b;
      to_a = record {
        true_at = way.true_after;
        stands = at_place after (place_after port.place heard) flow.port.place way.true_after place
            way.stands;
        rests = way.rests;
        found = way.left;
        good = way.good;
      };
    } in
    record {
      flow = flow;
      through = way.through;
      fair =
          subst (λ d. IsFair (record {
            link = after_delivery count d s.link;
            astray_a = s.astray_a;
            astray_b = after;
          })) (sym way.through) done;
    }
  where
    at_place : (after : Bool) (there mine other : Place) → mine ≡ there
        → StandAt after there other → StandAt after mine other
    at_place after there mine other same h =
        subst (λ (p : Place). StandAt after p other) (sym same) h

hear_fair : (to : Side) (count : ℕ) (heard : List Char) (after : Bool) (s : LaneLink) → IsFair s
    → HearsSo to count heard after s → IsFair (lanes_hear to count heard after s)
hear_fair A count heard after s fair h = (hears_on count heard after s fair h).fair
hear_fair B count heard after s fair h =
    let there = lanes_round s in
    fair_round (first_hears count heard after there)
    (hears_on count heard after there (fair_round s fair) h).fair

none_found : (to : Side) (count : ℕ) (heard : List Char) (after : Bool) (e : Event)
    (s : LaneLink) → IsFair s → HearsSo to count heard after s
    → undetected (hearing heard (lanes_from to s).link) ≡ Some e → ⊥
none_found to count heard after e s fair h found =
    let there = lanes_from to s in
    let heard_on = hears_on count heard after there (fair_from to s fair) h in
    let none : undetected (hearing heard there.link) ≡ None = ap undetected heard_on.through in
    apart (undetected (hearing heard there.link)) e none found
  where
    apart : (o : Option Event) (e : Event) → o ≡ None → o ≡ Some e → ⊥
    apart o e none some = absurd cc

-- ---- whole runs

pub never : {s : LaneLink} → EndsUndetected s → IsFair s → ⊥
never (LanesTurn {s = s} from turns h) fair = never h (pump_fair from turns s fair)
never (LanesTell {s = s} from h) fair = never h (tell_fair from s fair)
never (LanesTimeOut {s = s} side h) fair = never h (fire_fair side s fair)
never (LanesServe {s = s} side next is served h) fair =
    never h (serve_fair side next s is served fair)
never (LanesHear {s = s} to count heard after so none h) fair =
    never h (hear_fair to count heard after s fair so)
never (LanesFind {s = s} to count heard after e so found) fair =
    none_found to count heard after e s fair so found

begins_fair : (port : PortState) → at_rest port.place ≡ true → IsFairWay false port empty_wires.a
unfolding place_after run
begins_fair port rests = record {
  true_at = port.place;
  stands = level_with port.place.text port.place.pending;
  rests = rests;
  found = sub_none [];
  good = tt;
}

new_fair : (tells_a tells_b : Bool) (m n : ℕ) → AreBuffers m → AreBuffers n
    → IsFair (lanes_of (link empty_wires (new_port tells_a m) (new_port tells_b n)))
new_fair tells_a tells_b m n is_m is_n = record {
  sound = new_sound tells_a tells_b m n is_m is_n;
  to_b = begins_fair (new_port tells_b n) refl;
  to_a = begins_fair (new_port tells_a m) refl;
}

pub never_from_new : (tells_a tells_b : Bool) (m n : ℕ) → AreBuffers m → AreBuffers n
    → EndsUndetected (lanes_of (link empty_wires (new_port tells_a m) (new_port tells_b n))) → ⊥
never_from_new tells_a tells_b m n is_m is_n h = never h (new_fair tells_a tells_b m n is_m is_n)
