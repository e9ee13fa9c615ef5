-- Turns, deliveries and time-outs of a calm link act on nothing that was not sent, and leave it
-- calm.
use Rattle.link_machine.proofs.Prelude.{◌≡◌, ℕ, ◌+◌, ◌++◌, ◌&&◌, Bool, true, false, if◌then◌else◌, List, [], ◌∷◌, map, length, take, drop, Some, refl, sym, ap, ◌∙◌, subst, and_parts, take-append-drop, Char, Place, at_rest, run, place_after, said, place_after-append, Event, PortState, IsPort, is_acted, tell_sends, new_port, Burst, IsRead, timed_out, WireState, with_sent, port_turned, bursts, answers, silenced, IsServed, with_port, Side, A, B, IsSoundLink, LinkState, turned_round, at_end, from_end, link, empty_wires, Act, Pump, Tell, Deliver, Fire, Reached, At, OnState, reached_by, after_act, goes, AreAnswers, port_answers, IsQuiet}
use Rattle.link_wires.specs.Deliveries.{Flow, Delivered, Through, begun, done, met, comes, goes_on, come, ended, delivered}
use Rattle.link_wires.specs.Kept.{behind, IsSubsequence}
use Rattle.link_wires.proofs.Subsequences.{sub_none, sub_drop, sub-append, sub_behind}
use Rattle.link_wires.proofs.Throughs.{through_place}
use Rattle.link_machine.specs.Calls.{first_turns, pumped, first_tells, told_from, delivery, after_delivery, first_takes, has_chars, has_none, is_silent, first_fires, timed_out_at}
use Rattle.link_machine.specs.Calm.{IsCalmWay, IsCalm, IsStillCalm}
use Rattle.link_machine.proofs.Settling.AnswerLaws.{port_narrow, replies_answer}
use Rattle.link_machine.proofs.Settling.Bursting.{IsDelimited, turned_is, turns_read, turns_delimited, tell_read, tell_delimited, answers_are_read, answers_delimited, read_at_rest}
use Rattle.link_machine.proofs.Settling.Ends.{acts_keep}
use Rattle.link_machine.proofs.Settling.Lines.{OnFlow, IsFed, by_tables, goes_one}
use Rattle.link_machine.proofs.Settling.SaidLaws.{said-append}

-- ---- a delivery

-- all events come, and more may
record ComesThrough (d : Delivered) (more : List Event) : Type 0 where
  pub flow : Flow
  pub through : d ≡ Through flow
  pub left : IsSubsequence more flow.kept

abbrev events_in : List (ℕ × Event) → List Event
events_in events = map (λ (p : ℕ × Event). p.1) events

one_comes : (placed : ℕ × Event) (flow : Flow) (more : List Event)
    → IsSubsequence (placed.1 ∷ more) flow.kept → ComesThrough (comes flow placed) more
one_comes placed flow more sub = by_test (is_acted flow.port e)
  where
    e : Event
    e = placed.1

    found : (kept : List Event) × ((behind e flow.kept ≡ Some kept) × IsSubsequence more kept)
    found = sub_behind e more flow.kept sub

    by_test : (b : Bool) → ComesThrough (if b then met placed.0 e (behind e flow.kept) flow
        else Through (done e [] flow.kept flow)) more
    by_test true = record {
      flow = done e (e ∷ []) found.0 flow;
      through = ap (λ o. met placed.0 e o flow) found.1.0;
      left = found.1.1;
    }
    by_test false =
        record { flow = done e [] flow.kept flow; through = refl; left = sub_drop sub }

all_come : (events : List (ℕ × Event)) (flow : Flow) (more : List Event)
    → IsSubsequence (events_in events ++ more) flow.kept → ComesThrough (come events flow) more
unfolding come
all_come [] flow more sub = record { flow = flow; through = refl; left = sub }
all_come (placed ∷ events) flow more sub =
    let one = one_comes placed flow (events_in events ++ more) sub in
    let rest = all_come events one.flow more one.left in
    record {
      flow = rest.flow;
      through = ap (goes_on (come events)) one.through ∙ rest.through;
      left = rest.left;
    }

comes_through : (port : PortState) (kept : List Event) (xs ys : List Char)
    → IsSubsequence (said port.place (xs ++ ys)) kept
    → ComesThrough (delivered port kept xs) (said (place_after port.place xs) ys)
comes_through port kept xs ys sub =
    let place = place_after port.place xs in
    let all = all_come (run port.place 0 xs) (begun port kept) (said place ys)
    (subst (λ l. IsSubsequence l kept) (said-append port.place xs ys) sub) in
    record {
      flow = record all.flow {
        port = record all.flow.port { place = place };
        told = record all.flow.told { count = 0 + length xs };
      };
      through = ap (ended place (0 + length xs)) all.through;
      left = all.left;
    }

-- ---- one way

calm_sent : (receiver : PortState) (wire : WireState) (burst : Burst) → IsRead burst
    → IsDelimited burst.chars → IsCalmWay receiver wire → IsCalmWay receiver (with_sent wire burst)
calm_sent receiver wire burst read delimited calm =
    let from = receiver.place in
    let there = place_after from wire.chars in
    let more = read_at_rest there burst calm.rests read delimited in
    let says = said-append from wire.chars burst.chars
    ∙ ap (λ l. said from wire.chars ++ l) more.says in
    record {
      rests = ap at_rest (place_after-append from wire.chars burst.chars) ∙ more.rests;
      found =
          subst (λ l. IsSubsequence l (wire.kept ++ burst.sent)) (sym says)
          (sub-append burst.sent calm.found);
    }

-- the same for another port whose framer stands there
calm_at : (receiver other : PortState) (wire : WireState) → other.place ≡ receiver.place
    → IsCalmWay receiver wire → IsCalmWay other wire
calm_at receiver other wire same calm = record {
  rests = ap (λ p. at_rest (place_after p wire.chars)) same ∙ calm.rests;
  found = subst (λ p. IsSubsequence (said p wire.chars) wire.kept) (sym same) calm.found;
}

said_none : (p : Place) (sent : List Event) → IsSubsequence (said p []) sent
unfolding run
said_none p sent = sub_none sent

-- no character is on the way
calm_empty : (receiver : PortState) (wire : WireState) → wire.chars ≡ []
    → at_rest receiver.place ≡ true → IsCalmWay receiver wire
unfolding place_after
calm_empty receiver wire none rests = record {
  rests = ap (λ l. at_rest (place_after receiver.place l)) none ∙ rests;
  found =
      subst (λ l. IsSubsequence (said receiver.place l) wire.kept) (sym none)
      (said_none receiver.place wire.kept);
}

calm_silent : (receiver other : PortState) (wire : WireState) → other.place ≡ receiver.place
    → wire.chars ≡ [] → IsCalmWay receiver wire → IsCalmWay other (silenced wire)
calm_silent receiver other wire same none calm = record {
  rests = ap (λ p. at_rest (place_after p wire.chars)) same ∙ calm.rests;
  found = subst (λ l. IsSubsequence (said other.place l) []) (sym none) (said_none other.place []);
}

-- ---- turns

pub calm_round : {s : LinkState} → IsCalm s → IsCalm (turned_round s)
calm_round calm = record { to_b = calm.to_a; to_a = calm.to_b }

pub turns_calm : (n : ℕ) (s : LinkState) → IsPort s.a → IsCalm s → IsCalm (first_turns n s)
turns_calm n s is calm = record {
  to_b =
      calm_sent s.b s.wire_a (bursts n s.a) (turns_read n s.a is) (turns_delimited n s.a) calm.to_b;
  to_a =
      calm_at s.a (port_turned n s.a) s.wire_b (ap (λ (p : PortState). p.place) (turned_is n s.a))
      calm.to_a;
}

tells_calm : (s : LinkState) → IsPort s.a → IsCalm s → IsCalm (first_tells s)
tells_calm s is calm = record {
  to_b = calm_sent s.b s.wire_a (tell_sends s.a) (tell_read s.a is) (tell_delimited s.a) calm.to_b;
  to_a = calm.to_a;
}

-- ---- deliveries

record TakesCalm (n : ℕ) (s : LinkState) : Type 0 where
  pub flow : Flow
  pub through : delivery n s ≡ Through flow
  pub calm : IsCalm (first_takes n s)

flow_answers :
    (port : PortState) (kept : List Event) (chars : List Char) (flow : Flow) → IsPort port
    → delivered port kept chars ≡ Through flow → AreAnswers flow.told.replies
unfolding port_answers
flow_answers port kept chars flow is through =
    let fed = subst (OnFlow (IsFed port chars)) through (by_tables port kept chars) in
    subst AreAnswers (sym fed.1)
    (replies_answer port (said port.place chars) (port_narrow port is))

takes_calm : (n : ℕ) (s : LinkState) → IsPort s.a → IsCalm s → TakesCalm n s
takes_calm n s is calm =
    let xs = take n s.wire_b.chars in
    let ys = drop n s.wire_b.chars in
    let kept = s.wire_b.kept in
    let joined : xs ++ ys ≡ s.wire_b.chars = take-append-drop n s.wire_b.chars in
    let own = comes_through s.a kept xs ys
    (subst (λ l. IsSubsequence (said s.a.place l) kept) (sym joined) calm.to_a.found) in
    let place = through_place s.a kept xs own.flow own.through in
    let replies = flow_answers s.a kept xs own.flow is own.through in
    let all = sym (place_after-append s.a.place xs ys) ∙ ap (place_after s.a.place) joined in
    let sent = own.flow.told.replies in
    let done : IsCalm (after_delivery n (Through own.flow) s) = record {
      to_b =
          calm_sent s.b s.wire_a (answers sent) (answers_are_read sent replies)
          (answers_delimited sent) calm.to_b;
      to_a = record {
        rests = ap (λ p. at_rest (place_after p ys)) place ∙ ap at_rest all ∙ calm.to_a.rests;
        found = subst (λ p. IsSubsequence (said p ys) own.flow.kept) (sym place) own.left;
      };
    } in
    record {
      flow = own.flow;
      through = own.through;
      calm = subst (λ d. IsCalm (after_delivery n d s)) (sym own.through) done;
    }

-- ---- time-outs

pub empty_chars : (chars : List Char) → has_none chars ≡ true → chars ≡ []
empty_chars [] is = refl
empty_chars (c ∷ chars) is = absurd cc

fires_calm : (s : LinkState) → is_silent s ≡ true → IsCalm s → IsCalm (first_fires s)
fires_calm s silent calm =
    let both = and_parts (has_none s.wire_a.chars) (has_none s.wire_b.chars) silent in
    let none_a = empty_chars s.wire_a.chars both.0 in
    let none_b = empty_chars s.wire_b.chars both.1 in
    record {
      to_b = calm_silent s.b s.b s.wire_a refl none_a calm.to_b;
      to_a = calm_silent s.a (timed_out s.a) s.wire_b refl none_b calm.to_a;
    }

fire_calm : (side : Side) (s : LinkState) → IsCalm s → IsCalm (timed_out_at side s)
fire_calm side s calm = by_test (is_silent s) refl side
  where
    round_silent : is_silent s ≡ true → is_silent (turned_round s) ≡ true
    round_silent is =
        let both = and_parts (has_none s.wire_a.chars) (has_none s.wire_b.chars) is in
        (λ i. both.1 i && both.0 i)

    by_test : (b : Bool) → is_silent s ≡ b → (side : Side)
        → IsCalm (if b then at_end side first_fires s else s)
    by_test true is A = fires_calm s is calm
    by_test true is B = calm_round (fires_calm (turned_round s) (round_silent is) (calm_round calm))
    by_test false is side = calm

-- ---- all of these

-- one thing that is done leads to a calm state
pub record GoesCalm (r : Reached) : Type 0 where
  pub m : LinkState
  pub there : r ≡ At m
  pub calm : IsCalm m

deliver_calm : (from : Side) (n : ℕ) (s : LinkState) → IsSoundLink s → IsCalm s
    → GoesCalm (after_act (Deliver from n) s)
deliver_calm A n s sound calm = by_chars (has_chars A n s)
  where
    t : LinkState
    t = turned_round s

    own : TakesCalm n t
    own = takes_calm n t sound.port_b (calm_round calm)

    by_chars : (b : Bool) → GoesCalm (if b
        then reached_by B (if b then turned_round (first_takes n t) else s) (delivery n t)
        else At s)
    by_chars true = record {
      m = turned_round (first_takes n t);
      there = ap (reached_by B (turned_round (first_takes n t))) own.through;
      calm = calm_round own.calm;
    }
    by_chars false = record { m = s; there = refl; calm = calm }
deliver_calm B n s sound calm = by_chars (has_chars B n s)
  where
    own : TakesCalm n s
    own = takes_calm n s sound.port_a calm

    by_chars : (b : Bool) → GoesCalm (if b
        then reached_by A (if b then first_takes n s else s) (delivery n s)
        else At s)
    by_chars true = record {
      m = first_takes n s;
      there = ap (reached_by A (first_takes n s)) own.through;
      calm = own.calm;
    }
    by_chars false = record { m = s; there = refl; calm = calm }

act_calm : (act : Act) (s : LinkState) → IsSoundLink s → IsCalm s → GoesCalm (after_act act s)
act_calm (Pump A n) s sound calm =
    record { m = pumped A n s; there = refl; calm = turns_calm n s sound.port_a calm }
act_calm (Pump B n) s sound calm = record {
  m = pumped B n s;
  there = refl;
  calm = calm_round (turns_calm n (turned_round s) sound.port_b (calm_round calm));
}
act_calm (Tell A) s sound calm =
    record { m = told_from A s; there = refl; calm = tells_calm s sound.port_a calm }
act_calm (Tell B) s sound calm = record {
  m = told_from B s;
  there = refl;
  calm = calm_round (tells_calm (turned_round s) sound.port_b (calm_round calm));
}
act_calm (Deliver from n) s sound calm = deliver_calm from n s sound calm
act_calm (Fire side) s sound calm =
    record { m = timed_out_at side s; there = refl; calm = fire_calm side s calm }

-- Whatever is done on a sound and calm link, each event that is acted on was sent, and the link is
-- calm.
pub acts_calm : (acts : List Act) (s : LinkState) → IsSoundLink s → IsCalm s
    → GoesCalm (goes (At s) acts)
unfolding goes
acts_calm [] s sound calm = record { m = s; there = refl; calm = calm }
acts_calm (act ∷ acts) s sound calm =
    let one = act_calm act s sound calm in
    let kept : IsSoundLink one.m =
    subst (OnState IsSoundLink) (sym (goes_one s act) ∙ one.there)
    (acts_keep (act ∷ []) (At s) sound) in
    let rest = acts_calm acts one.m kept one.calm in
    record {
      m = rest.m;
      there = ap (λ r. goes r acts) one.there ∙ rest.there;
      calm = rest.calm;
    }

pub acts_still_calm : (s : LinkState) (acts : List Act) → IsSoundLink s → IsCalm s
    → IsStillCalm (goes (At s) acts)
acts_still_calm s acts sound calm =
    let all = acts_calm acts s sound calm in
    let kept = subst (OnState IsSoundLink) all.there (acts_keep acts (At s) sound) in
    subst IsStillCalm (sym all.there) (kept, all.calm)

-- ---- where it begins, and what keeps it besides

pub quiet_calm : (s : LinkState) → IsQuiet s → IsCalm s
quiet_calm s quiet = record {
  to_b = calm_empty s.b s.wire_a quiet.wire_a quiet.a_to_b.place;
  to_a = calm_empty s.a s.wire_b quiet.wire_b quiet.b_to_a.place;
}

pub new_calm : (tells_a tells_b : Bool) (m n : ℕ)
    → IsCalm (link empty_wires (new_port tells_a m) (new_port tells_b n))
new_calm tells_a tells_b m n = record {
  to_b = calm_empty (new_port tells_b n) empty_wires.a refl refl;
  to_a = calm_empty (new_port tells_a m) empty_wires.b refl refl;
}

served_calm : (next : PortState) (s : LinkState) → IsServed s.a next → IsCalm s
    → IsCalm (record s { a = next })
served_calm next s served calm = record {
  to_b = calm.to_b;
  to_a = calm_at s.a next s.wire_b (sym served.alike.1) calm.to_a;
}

pub layer_calm : (side : Side) (next : PortState) (s : LinkState)
    → IsServed (from_end side s).a next → IsCalm s → IsCalm (with_port side next s)
layer_calm A next s served calm = served_calm next s served calm
layer_calm B next s served calm =
    calm_round (served_calm next (turned_round s) served (calm_round calm))
