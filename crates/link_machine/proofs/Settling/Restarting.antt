-- A restart-from-retry or a link-request is sent, and what comes of it.
use Rattle.link_machine.proofs.Prelude.{◌≡◌, inl, inr, ℕ, Bool, true, false, if◌then◌else◌, Option, List, [], ◌∷◌, refl, sym, ap, ◌∙◌, subst, arith, Fields, Arrival, Output, hears_report, turns, Outstanding, from_ack, Place, place, at_rest, Text, Plain, Skipped, Within, symbol_chars_of, restart_from_retry, link_request, Report, highest, Pending, Nothing, Opened, One, Two, PortState, IsPort, expected_of, buffer_status, standing, burst_of, turn_sends, turns_to, waiting_in, standing_range, responded, reported, has_buffer_status, base_of, report_of, broken_off, rests_by, Side, A, B, LinkState, turned_round, from_end, IsSoundLink, led, port_fed, port_answers, chars_of, controls, AreAnswers, Act, At, goes, OnState, is_retry_stopped, TakesTurn, IsAtRest}
use Rattle.link_machine.proofs.Machine.{none_failed, from_end_keeps, round_keeps}
use Rattle.link_machine.proofs.Settling.TableLaws.{led-append}
use Rattle.link_machine.proofs.Settling.AnswerLaws.{IsNarrow, port_narrow, first_breaks}
use Rattle.link_machine.proofs.Settling.Signals.{IsSignal, fed_by, fed_is, fed_none, break_led, signal_fed, signal_answered, input_signalled, replies_signalled, unbroken_leaves, resting_answered, IsDown, down_fed, request_input, output_after, output_led, response_heard, response_is}
use Rattle.link_machine.proofs.Settling.Packets.{status_range}
use Rattle.link_machine.proofs.Settling.Exchanges.{Exchanged}
use Rattle.link_machine.proofs.Settling.Drains.{on_state, AreEmpty, answers_are}
use Rattle.link_machine.proofs.Settling.TurnLaws.{third_answers, turn_goes}

-- ---- places at rest

rests_in : (t : Text) (k : Pending) → rests_by t k ≡ true → k ≡ Nothing
rests_in t Nothing rests = refl
rests_in Plain (Opened d) rests = absurd cc
rests_in Plain (One d x) rests = absurd cc
rests_in Plain (Two d x y) rests = absurd cc
rests_in Skipped (Opened d) rests = absurd cc
rests_in Skipped (One d x) rests = absurd cc
rests_in Skipped (Two d x y) rests = absurd cc
rests_in (Within bytes) (Opened d) rests = absurd cc
rests_in (Within bytes) (One d x) rests = absurd cc
rests_in (Within bytes) (Two d x y) rests = absurd cc

pub rest_place : (from : Place) → at_rest from ≡ true → from ≡ place from.text Nothing
rest_place from rests =
    ap (λ (k : Pending). place from.text k) (rests_in from.text from.pending rests)

-- ---- a restart-from-retry or a link-request

-- after it: the receiver has nothing in progress, and the other direction stays at rest
pub record Signalled (what : Arrival) (p q : PortState) (m : LinkState) : Type 0 where
  pub place : at_rest m.b.place ≡ true
  pub input : m.b.input ≡ input_signalled what q.place.pending q.input
  pub a : m.a ≡ port_fed p (chars_of (replies_signalled what q.place.pending q.input))
  pub other : IsAtRest q p → IsAtRest m.b m.a

pub signal_silent : (p q : PortState) (symbol : Fields) (what : Arrival) → IsSignal symbol what
    → IsNarrow p
    → third_answers p q (symbol_chars_of symbol) ≡ []
signal_silent p q symbol what is narrow =
    let cs = symbol_chars_of symbol in
    let there = ap (λ (x : PortState). x.place) (signal_fed q symbol what is) in
    let second = port_answers p (chars_of (port_answers q cs)) in
    (unbroken_leaves (port_fed q cs) Plain second there
    (answers_are p (chars_of (port_answers q cs)) narrow)).0.silent

-- a sender with nothing outstanding has nothing outstanding after a symbol that tells of buffers
rest_reported : (symbol : Fields) (ack : ℕ) (old : Option Report)
    → (report : Option Report)
    × (hears_report symbol (Output.Ok (from_ack ack old)) ≡ Output.Ok (from_ack ack report))
rest_reported symbol ack old = by (has_buffer_status symbol.s0)
  where
    told : Option Report
    told = report_of (base_of symbol.s0 symbol.p0) symbol.p1

    before : Output
    before = Output.Ok (from_ack ack old)

    by : (has : Bool) → (report : Option Report)
        × ((if has then reported told before else before) ≡ Output.Ok (from_ack ack report))
    by true = (told, refl)
    by false = (old, refl)

other_rests : (p q : PortState) (symbol : Fields) (what : Arrival) (m : LinkState)
    → IsSignal symbol what → IsNarrow q
    → Exchanged p q (symbol_chars_of symbol) m → IsAtRest q p → IsAtRest m.b m.a
unfolding chars_of
other_rests p q symbol what m is far x rests =
    let cs = symbol_chars_of symbol in
    let first = port_answers q cs in
    let near_place = rest_place p.place rests.place in
    let leaves = unbroken_leaves p p.place.text first near_place (answers_are q cs far) in
    let text_rests : at_rest (place p.place.text Nothing) ≡ true =
    subst (λ (from : Place). at_rest from ≡ true) near_place rests.place in
    let b_is : m.b ≡ port_fed q cs =
    x.b
    ∙ ap (λ (r : List Fields). port_fed (port_fed q cs) (chars_of r)) leaves.0.silent
    ∙ fed_none (port_fed q cs) in
    let told = rest_reported symbol rests.ack rests.report in
    record {
      ack = rests.ack;
      report = told.0;
      sender_ok =
          ap (λ (y : PortState). y.output) (b_is ∙ signal_fed q symbol what is)
          ∙ ap (hears_report symbol) rests.sender_ok
          ∙ told.1;
      receiver_ok = ap (λ (y : PortState). y.input) x.a ∙ leaves.0.input ∙ rests.receiver_ok;
      place =
          ap (λ (y : PortState). at_rest y.place) x.a
          ∙ ap at_rest leaves.1
          ∙ resting_answered first p.place.text text_rests;
    }

pub signal_over : (p q : PortState) (symbol : Fields) (what : Arrival) (m : LinkState)
    → IsSignal symbol what → IsNarrow p → IsNarrow q
    → Exchanged p q (symbol_chars_of symbol) m → Signalled what p q m
signal_over p q symbol what m is near far x =
    let cs = symbol_chars_of symbol in
    let second = port_answers p (chars_of (port_answers q cs)) in
    let there = ap (λ (y : PortState). y.place) (signal_fed q symbol what is) in
    let leaves =
    unbroken_leaves (port_fed q cs) Plain second there
    (answers_are p (chars_of (port_answers q cs)) near) in
    record {
      place =
          ap (λ (y : PortState). at_rest y.place) x.b
          ∙ ap at_rest leaves.1
          ∙ resting_answered second Plain refl;
      input =
          ap (λ (y : PortState). y.input) x.b
          ∙ leaves.0.input
          ∙ ap (λ (y : PortState). y.input) (signal_fed q symbol what is);
      a = x.a ∙ ap (λ (r : List Fields). port_fed p (chars_of r))
          (signal_answered q symbol what is);
      other = other_rests p q symbol what m is far x;
    }

-- ---- a restart

-- the symbols of a port
abbrev pub restart_of : PortState → Fields
restart_of p = restart_from_retry (expected_of p.input) (buffer_status p.tells p.received)

abbrev request_of : PortState → Fields
request_of p = link_request (expected_of p.input) (buffer_status p.tells p.received)

pub restart_is : (p : PortState) → IsPort p → IsSignal (restart_of p) Arrival.RestartFromRetry
restart_is p is =
    let at = standing_range p is in
    record {
      range =
          status_range (expected_of p.input) (buffer_status p.tells p.received) 3 0 at.expected
          at.buffers (omega arith) (omega arith);
      status = refl;
      tells = λ t. refl;
      plain = λ t. refl;
      arrival = refl;
    }

request_is : (p : PortState) → IsPort p → IsSignal (request_of p) Arrival.LinkRequest
request_is p is =
    let at = standing_range p is in
    record {
      range =
          status_range (expected_of p.input) (buffer_status p.tells p.received) 4 4 at.expected
          at.buffers (omega arith) (omega arith);
      status = refl;
      tells = λ t. refl;
      plain = λ t. refl;
      arrival = refl;
    }

-- the other direction, where the sender of this one took a turn
other_before : (p q : PortState) → IsAtRest q p → IsAtRest q (turns_to p)
other_before p q rests = record {
  ack = rests.ack;
  report = rests.report;
  sender_ok = rests.sender_ok;
  receiver_ok = rests.receiver_ok;
  place = rests.place;
}

-- what a side has come to: the link is sound and empty, and the other direction is at rest if it
-- was
pub record Kept (near : Side) (s m : LinkState) : Type 0 where
  pub sound : IsSoundLink m
  pub none : AreEmpty m
  pub other : IsAtRest (from_end near s).b (from_end near s).a
      → IsAtRest (from_end near m).b (from_end near m).a

pub unended : (near : Side) (m : LinkState) → IsSoundLink (from_end near m) → IsSoundLink m
unended A m l = l
unended B m l = round_keeps (turned_round m) l

-- not retry-stopped
pub record IsAwake (near : Side) (s m : LinkState) : Type 0 where
  pub kept : Kept near s m
  pub awake : is_retry_stopped (from_end near m).a.output ≡ false

down_is_awake : (o : Output) → IsDown o → is_retry_stopped o ≡ false
down_is_awake (Output.Ok w) down = refl
down_is_awake (Output.RetryStopped w) down = absurd down
down_is_awake (Output.ErrorStopped asked w) down = refl
down_is_awake Output.Failed down = refl

pub restart_chars : (p : PortState) (w : Outstanding) → p.output ≡ Output.RetryStopped w
    → (turn_sends p).chars ≡ symbol_chars_of (restart_of p)
restart_chars p w is =
    ap (λ (o : Output). (burst_of (turns p.tells o (highest (waiting_in p))).sends (standing p)
    (waiting_in p)).chars) is

pub restart_state : (p : PortState) (w : Outstanding) → p.output ≡ Output.RetryStopped w
    → (turns_to p).output ≡ Output.Ok (from_ack w.oldest w.report)
restart_state p w is = ap (λ (o : Output). (turns p.tells o (highest (waiting_in p))).state) is

pub restarted : (near : Side) (s : LinkState) (all : List Act) (w : Outstanding) → IsSoundLink s
    → AreEmpty s → (from_end near s).a.output ≡ Output.RetryStopped w → TakesTurn near (At s) all
    → OnState (IsAwake near s) (goes (At s) all)
restarted near s all w l none is turn =
    let t = from_end near s in
    let p = turns_to t.a in
    let sound = from_end_keeps near s l in
    let symbol = restart_of t.a in
    let signal = restart_is t.a sound.port_a in
    let near_narrow = port_narrow t.a sound.port_a in
    let far_narrow = port_narrow t.b sound.port_b in
    let silent = signal_silent p t.b symbol Arrival.RestartFromRetry signal near_narrow in
    let down : IsDown p.output =
    subst (λ (o : Output). IsDown o) (sym (restart_state t.a w is)) refl in
    on_state (goes (At s) all)
    (λ m x.
    let does =
    signal_over p t.b symbol Arrival.RestartFromRetry (from_end near m) signal near_narrow
    far_narrow x.0 in
    record {
      kept = record {
        sound = unended near m x.0.sound;
        none = x.1;
        other = λ rests. does.other (other_before t.a t.b rests);
      };
      awake =
          down_is_awake (from_end near m).a.output (subst (λ (y : PortState). IsDown y.output)
          (sym does.a) (down_fed p
          (chars_of (replies_signalled Arrival.RestartFromRetry t.b.place.pending t.b.input))
          down));
    })
    (turn_goes near s all (symbol_chars_of symbol) l none (restart_chars t.a w is) silent turn)

-- ---- a link-request

fed_output : (p : PortState) (ss : List Fields) → AreAnswers ss
    → (port_fed p (chars_of ss)).output ≡ output_after p.output ss
unfolding chars_of output_after
fed_output p [] are = ap (λ (q : PortState). q.output) (fed_none p)
fed_output p (s ∷ ss) are =
    ap (λ (q : PortState). q.output) (fed_is p (chars_of (s ∷ ss))
    ∙ ap (fed_by p) (first_breaks p.place.text p.place.pending s ss are))
    ∙ ap (λ (q : PortState). q.output)
    (led-append p (broken_off p.place.pending) (controls (s ∷ ss)))
    ∙ ap (λ (q : PortState). (led q (controls (s ∷ ss))).output) (break_led p p.place.pending)
    ∙ output_led (record p { input = _ }) (s ∷ ss)

-- its direction is at rest
pub record Rested (near : Side) (s m : LinkState) : Type 0 where
  pub kept : Kept near s m
  pub rests : IsAtRest (from_end near m).a (from_end near m).b

request_chars : (p : PortState) (w : Outstanding) → p.output ≡ Output.ErrorStopped false w
    → (turn_sends p).chars ≡ symbol_chars_of (request_of p)
request_chars p w is =
    ap (λ (o : Output). (burst_of (turns p.tells o (highest (waiting_in p))).sends (standing p)
    (waiting_in p)).chars) is

request_state : (p : PortState) (w : Outstanding) → p.output ≡ Output.ErrorStopped false w
    → (turns_to p).output ≡ Output.ErrorStopped true w
request_state p w is = ap (λ (o : Output). (turns p.tells o (highest (waiting_in p))).state) is

-- the sender hears the response, and has not failed
heard_response : (p q : PortState) (w : Outstanding) (m : LinkState)
    → p.output ≡ Output.ErrorStopped true w
    → AreAnswers (replies_signalled Arrival.LinkRequest q.place.pending q.input)
    → IsSoundLink m
    → m.a ≡ port_fed p (chars_of (replies_signalled Arrival.LinkRequest q.place.pending q.input))
    → m.a.output ≡ Output.Ok (from_ack (expected_of q.input) w.report)
heard_response p q w m asked are l is =
    let k = q.place.pending in
    let hears : m.a.output ≡ (responded true w (expected_of q.input)).state =
    ap (λ (y : PortState). y.output) is
    ∙ fed_output p (replies_signalled Arrival.LinkRequest k q.input) are
    ∙ ap (λ (o : Output). output_after o (replies_signalled Arrival.LinkRequest k q.input)) asked
    ∙ response_heard k q.input w in
    elim (response_is w (expected_of q.input))
    [ inl ok ↦ hears ∙ ok | inr failed ↦ absurd ((none_failed m l).0 (hears ∙ failed)) ]

pub requested : (near : Side) (s : LinkState) (all : List Act) (w : Outstanding) → IsSoundLink s
    → AreEmpty s → (from_end near s).a.output ≡ Output.ErrorStopped false w
    → TakesTurn near (At s) all
    → OnState (Rested near s) (goes (At s) all)
requested near s all w l none is turn =
    let t = from_end near s in
    let p = turns_to t.a in
    let sound = from_end_keeps near s l in
    let symbol = request_of t.a in
    let signal = request_is t.a sound.port_a in
    let near_narrow = port_narrow t.a sound.port_a in
    let far_narrow = port_narrow t.b sound.port_b in
    let silent = signal_silent p t.b symbol Arrival.LinkRequest signal near_narrow in
    let are =
    subst (λ (r : List Fields). AreAnswers r)
    (signal_answered t.b symbol Arrival.LinkRequest signal)
    (answers_are t.b (symbol_chars_of symbol) far_narrow) in
    on_state (goes (At s) all)
    (λ m x.
    let does =
    signal_over p t.b symbol Arrival.LinkRequest (from_end near m) signal near_narrow far_narrow
    x.0 in
    record {
      kept = record {
        sound = unended near m x.0.sound;
        none = x.1;
        other = λ rests. does.other (other_before t.a t.b rests);
      };
      rests = record {
        ack = expected_of t.b.input;
        report = w.report;
        sender_ok =
            heard_response p t.b w (from_end near m) (request_state t.a w is) are x.0.sound does.a;
        receiver_ok = does.input ∙ request_input t.b.place.pending t.b.input;
        place = does.place;
      };
    })
    (turn_goes near s all (symbol_chars_of symbol) l none (request_chars t.a w is) silent turn)
