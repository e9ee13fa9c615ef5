-- What waits is sent: each round is a packet that is held and freed, or the last.
use Rattle.link_machine.proofs.Prelude.{◌≡◌, inr, ℕ, ◌+◌, ◌%◌, [], Bool, true, false, MatchBool, List, slice_get, refl, sym, ap, ◌∙◌, subst, Fields, prio_of, Input, Arrival, Output, hears_report, Place, place_start, at_rest, symbol_chars_of, reported, InputRetryStopped, InputOk, Buffered, list_at, room_for, highest, PortState, turns_to, is_ready, last_report, Side, LinkState, from_end, IsSoundLink, port_fed, port_answers, chars_of, LoopOf, LoopRests, LoopGoesOn, LoopLeaves, Act, Reached, At, FoundAt, goes, OnState, is_retry_stopped, of_end, TakesTurn, SendsAll, IsAtRest, KnowsRoom, IsDone}
use Rattle.link_machine.proofs.Machine.{from_end_keeps}
use Rattle.link_machine.proofs.Settling.AnswerLaws.{port_narrow}
use Rattle.link_machine.proofs.Settling.Signals.{input_signalled, replies_signalled, fed_none, answered_none, signal_fed, signal_answered}
use Rattle.link_machine.proofs.Settling.Packets.{told_by, status_after, report_by, one_out}
use Rattle.link_machine.proofs.Settling.Drains.{goes_none, goes_found, goes-append, on_state, AreEmpty}
use Rattle.link_machine.proofs.Settling.Restarting.{rest_place, restart_of, restart_chars, restart_state, restart_is, signal_silent, unended}
use Rattle.link_machine.proofs.Settling.Recovery.{rests_test}
use Rattle.link_machine.proofs.Settling.TurnLaws.{turn_goes}
use Rattle.link_machine.proofs.Settling.SendingRounds.{resting_open, Round, Quiet, AfterRound, round_goes, round_knows, round_tells}
use Rattle.link_machine.proofs.Settling.RoomLaws.{none_starts}

-- ---- a packet that was held and freed, and one that has no room

-- nothing else changed: what the far port has to send, and what this one has received
pub record Beside (near : Side) (s m : LinkState) : Type 0 where
  pub queued : (from_end near m).b.queued ≡ (from_end near s).b.queued
  pub received : (from_end near m).a.received ≡ (from_end near s).a.received

beside_round : (near : Side) (s m : LinkState) (h : AfterRound near s m) → Beside near s m
beside_round near s m h = record {
  queued = ap (λ (q : PortState). q.queued) h.round.b;
  received = ap (λ (p : PortState). p.received) h.round.a;
}

-- the other direction stays at rest
other_round : (near : Side) (s m : LinkState) (h : AfterRound near s m) → Quiet near s
    → IsAtRest (from_end near m).b (from_end near m).a
other_round near s m h quiet =
    let t = from_end near s in
    let there = rest_place t.a.place quiet.into.place in
    record {
      ack = quiet.into.ack;
      report = told_by t.a;
      sender_ok =
          ap (λ (q : PortState). q.output) h.round.b
          ∙ ap (reported (told_by t.a)) quiet.into.sender_ok;
      receiver_ok = ap (λ (p : PortState). p.input) h.round.a ∙ quiet.into.receiver_ok;
      place =
          ap (λ (p : PortState). at_rest p.place) h.round.a
          ∙ resting_open t.a.place.text
          (subst (λ (from : Place). at_rest from ≡ true) there quiet.into.place);
    }

held_quiet : (near : Side) (s m : LinkState) (ack : ℕ) → IsSoundLink m → AreEmpty m
    → Round true ack (from_end near s).a (from_end near s).b (from_end near m).a (from_end near m).b
    → IsAtRest (from_end near m).b (from_end near m).a → Quiet near m
held_quiet near s m ack l none r other = record {
  sound = l;
  none = none;
  out = record {
    ack = (ack + 1) % 32;
    report = report_by true ack (status_after true (from_end near s).b r.packet);
    sender_ok = ap (λ (p : PortState). p.output) r.a;
    receiver_ok = ap (λ (q : PortState). q.input) r.b;
    place = ap (λ (q : PortState). at_rest q.place) r.b;
  };
  into = other;
}

-- both directions are at rest, and each port knows what room the other has
pub record Knowing (near : Side) (m : LinkState) : Type 0 where
  pub quiet : Quiet near m
  pub out : KnowsRoom (from_end near m).a (from_end near m).b
  pub into : KnowsRoom (from_end near m).b (from_end near m).a

round_knowing : (near : Side) (s m : LinkState) (h : AfterRound near s m) → Quiet near s
    → Quiet near m → Knowing near m
round_knowing near s m h before quiet = record {
  quiet = quiet;
  out = round_knows h.room h.round;
  into = round_tells h.round before.into;
}

-- ---- the loop

-- what the loop comes to
pub record Sent (near : Side) (s m : LinkState) : Type 0 where
  pub knowing : Knowing near m
  pub beside : Beside near s m
  pub done : IsDone (from_end near m).a (from_end near m).b

then_beside : (near : Side) (s m n : LinkState) → Beside near s m → Sent near m n → Sent near s n
then_beside near s m n first next = record {
  knowing = next.knowing;
  beside = record {
    queued = next.beside.queued ∙ first.queued;
    received = next.beside.received ∙ first.received;
  };
  done = next.done;
}

-- no turn starts a packet: none waits, or the first that waits has no room
ends : (near : Side) (s : LinkState) → Knowing near s → is_ready (from_end near s).a ≡ false
    → Sent near s s
ends near s knowing none = record {
  knowing = knowing;
  beside = record { queued = refl; received = refl };
  done = none_starts t.a t.b knowing.quiet.out knowing.out l.port_a l.port_b none;
}
  where
    t : LinkState
    t = from_end near s

    l : IsSoundLink t
    l = from_end_keeps near s knowing.quiet.sound

-- The packet had no room, and the port restarts: the far port was retry-stopped, with nothing in
-- progress.
left : (near : Side) (s m : LinkState) (all : List Act) (ack : ℕ) → IsSoundLink m
    → AreEmpty m → Beside near s m
    → Round false ack (from_end near s).a (from_end near s).b (from_end near m).a
    (from_end near m).b
    → IsAtRest (from_end near m).b (from_end near m).a
    → KnowsRoom (from_end near m).a (from_end near m).b → TakesTurn near (At m) all
    → OnState (Sent near s) (goes (At m) all)
unfolding chars_of
left near s m all ack l none beside r other knows turn =
    let t = from_end near m in
    let sound = from_end_keeps near m l in
    let report = report_by false ack (status_after false (from_end near s).b r.packet) in
    let window = one_out ack r.prio report in
    let stopped : t.a.output ≡ Output.RetryStopped window = ap (λ (p : PortState). p.output) r.a in
    let refused : t.b.input ≡ InputRetryStopped ack = ap (λ (q : PortState). q.input) r.b in
    let there : t.b.place ≡ place_start = ap (λ (q : PortState). q.place) r.b in
    let p = turns_to t.a in
    let symbol = restart_of t.a in
    let cs = symbol_chars_of symbol in
    let signal = restart_is t.a sound.port_a in
    let silent =
    signal_silent p t.b symbol Arrival.RestartFromRetry signal (port_narrow t.a sound.port_a) in
    let no_answer : port_answers t.b cs ≡ [] =
    signal_answered t.b symbol Arrival.RestartFromRetry signal
    ∙ (λ i. replies_of (there i) (refused i)) in
    let next : PortState =
    record t.b {
      output = hears_report symbol t.b.output;
      input = InputOk ack;
      place = place_start;
    } in
    let far : port_fed t.b cs ≡ next =
    signal_fed t.b symbol Arrival.RestartFromRetry signal
    ∙ (λ i. record next { input = input_of (there i) (refused i) }) in
    on_state (goes (At m) all)
    (λ n x.
    let u = from_end near n in
    let near_is : u.a ≡ p =
    x.0.a ∙ ap (λ (ss : List Fields). port_fed p (chars_of ss)) no_answer ∙ fed_none p in
    let second : port_answers p (chars_of (port_answers t.b cs)) ≡ [] =
    ap (λ (ss : List Fields). port_answers p (chars_of ss)) no_answer ∙ answered_none p in
    let far_is : u.b ≡ next =
    x.0.b
    ∙ ap (λ (ss : List Fields). port_fed (port_fed t.b cs) (chars_of ss)) second
    ∙ fed_none (port_fed t.b cs)
    ∙ far in
    record {
      knowing = record {
        quiet = record {
          sound = unended near n x.0.sound;
          none = x.1;
          out = record {
            ack = ack;
            report = report;
            sender_ok =
                ap (λ (y : PortState). y.output) near_is ∙ restart_state t.a window stopped;
            receiver_ok = ap (λ (y : PortState). y.input) far_is;
            place = ap (λ (y : PortState). at_rest y.place) far_is;
          };
          into = record {
            ack = other.ack;
            report = told_by t.a;
            sender_ok =
                ap (λ (y : PortState). y.output) far_is
                ∙ ap (hears_report symbol) other.sender_ok;
            receiver_ok = ap (λ (y : PortState). y.input) near_is ∙ other.receiver_ok;
            place = ap (λ (y : PortState). at_rest y.place) near_is ∙ other.place;
          };
        };
        out =
            ap (λ (y : PortState). last_report y.output) near_is
            ∙ ap last_report (restart_state t.a window stopped)
            ∙ sym (ap last_report stopped)
            ∙ knows
            ∙ ap (λ (i : Input). told_by (record t.b { input = i })) refused
            ∙ sym (ap told_by far_is);
        into =
            ap (λ (y : PortState). last_report y.output) far_is
            ∙ ap (λ (o : Output). last_report (hears_report symbol o)) other.sender_ok
            ∙ sym (ap told_by near_is);
      };
      beside = record {
        queued = ap (λ (y : PortState). y.queued) far_is ∙ beside.queued;
        received = ap (λ (y : PortState). y.received) near_is ∙ beside.received;
      };
      done =
          let same : u.a.queued ≡ (from_end near s).a.queued =
          ap (λ (y : PortState). y.queued) near_is ∙ ap (λ (y : PortState). y.queued) r.a in
          let store : u.b.received ≡ (from_end near s).b.received =
          ap (λ (y : PortState). y.received) far_is ∙ ap (λ (y : PortState). y.received) r.b in
          inr (record {
            prio = r.prio;
            packet = r.packet;
            highest_is = ap highest same ∙ r.highest_is;
            first =
                ap (λ (lists : List (List (List ℕ))). slice_get (list_at lists r.prio) 0) same
                ∙ r.first;
            full = ap (λ (b : Buffered). room_for b (prio_of r.packet)) store ∙ r.has;
          });
    })
    (turn_goes near m all cs l none (restart_chars t.a window stopped) silent turn)
  where
    replies_of : Place → Input → List Fields
    replies_of from input = replies_signalled Arrival.RestartFromRetry from.pending input

    input_of : Place → Input → Input
    input_of from input = input_signalled Arrival.RestartFromRetry from.pending input

-- by whether it had room
by_room : (near : Side) (s m : LinkState) (h : AfterRound near s m) → Quiet near s
    → is_retry_stopped (from_end near m).a.output ≡ false → Quiet near m
by_room near s m h quiet goes_on = by h.room refl
  where
    by : (room : Bool) → h.room ≡ room → Quiet near m
    by true is =
        held_quiet near s m h.ack h.sound h.none (subst (λ (b : Bool). Round b h.ack
        (from_end near s).a (from_end near s).b (from_end near m).a (from_end near m).b) is h.round)
        (other_round near s m h quiet)
    by false is =
        let r =
        subst (λ (b : Bool). Round b h.ack (from_end near s).a (from_end near s).b
        (from_end near m).a (from_end near m).b) is h.round in
        let stopped : is_retry_stopped (from_end near m).a.output ≡ true =
        ap (λ (p : PortState). is_retry_stopped p.output) r.a in
        absurd cc

by_no_room : (near : Side) (s m : LinkState) (h : AfterRound near s m)
    → is_retry_stopped (from_end near m).a.output ≡ true
    → Round false h.ack (from_end near s).a (from_end near s).b (from_end near m).a
    (from_end near m).b
by_no_room near s m h leaves = by h.room refl
  where
    by : (room : Bool) → h.room ≡ room
        → Round false h.ack (from_end near s).a (from_end near s).b (from_end near m).a
        (from_end near m).b
    by true is =
        let r =
        subst (λ (b : Bool). Round b h.ack (from_end near s).a (from_end near s).b
        (from_end near m).a (from_end near m).b) is h.round in
        let open_is : is_retry_stopped (from_end near m).a.output ≡ false =
        ap (λ (p : PortState). is_retry_stopped p.output) r.a in
        absurd cc
    by false is =
        subst (λ (b : Bool). Round b h.ack (from_end near s).a (from_end near s).b
        (from_end near m).a (from_end near m).b) is h.round

-- the loop of a side
abbrev pub Sending : Side → Reached → List Act → Type 0
Sending near =
    LoopOf goes (of_end near (λ link. is_ready link.a)) (TakesTurn near)
    (of_end near (λ link. is_retry_stopped link.a.output)) (TakesTurn near)

-- after a round that goes on
pub goes_on : (near : Side) (s : LinkState) (r : Reached) → Quiet near s
    → OnState (AfterRound near s) r → of_end near (λ link. is_retry_stopped link.a.output) r ≡ false
    → OnState (λ m. Knowing near m × Beside near s m) r
goes_on near s (At m) quiet h more =
    (round_knowing near s m h quiet (by_room near s m h quiet more), beside_round near s m h)
goes_on near s (FoundAt side e) quiet h more = tt

-- after the last
leaves : (near : Side) (s : LinkState) (r : Reached) (all : List Act) → Quiet near s
    → OnState (AfterRound near s) r → of_end near (λ link. is_retry_stopped link.a.output) r ≡ true
    → TakesTurn near r all → OnState (Sent near s) (goes r all)
leaves near s (At m) all quiet h last turn =
    left near s m all h.ack h.sound h.none (beside_round near s m h) (by_no_room near s m h last)
    (other_round near s m h quiet) (round_knows h.room h.round) turn
leaves near s (FoundAt side e) all quiet h last turn = absurd cc

then_joined : (near : Side) (s m n : LinkState) → Beside near s m → Beside near m n
    → Beside near s n
then_joined near s m n first next = record {
  queued = next.queued ∙ first.queued;
  received = next.received ∙ first.received;
}

-- no more starts
rests_here : (near : Side) (s : LinkState) (r : Reached) (all : List Act)
    → of_end near (λ link. is_ready link.a) r ≡ false → all ≡ []
    → OnState (λ m. Knowing near m × Beside near s m) r
    → OnState (Sent near s) (goes r all)
rests_here near s (At m) all idle nothing h =
    subst (λ (r : Reached). OnState (Sent near s) r)
    (sym (ap (goes (At m)) nothing ∙ goes_none (At m)))
    (then_beside near s m m h.1 (ends near m h.0 idle))
rests_here near s (FoundAt side e) all idle nothing h = rw (goes_found side e all) tt

-- a round that goes on
goes_further : (near : Side) (s : LinkState) (r : Reached) (first : List Act)
    → of_end near (λ link. is_ready link.a) r ≡ true → TakesTurn near r first
    → of_end near (λ link. is_retry_stopped link.a.output) (goes r first) ≡ false
    → OnState (λ m. Knowing near m × Beside near s m) r
    → OnState (λ m. Knowing near m × Beside near s m) (goes r first)
goes_further near s (At m) first busy turn more h =
    on_state (goes (At m) first) (λ n x. (x.0, then_joined near s m n h.1 x.1))
    (goes_on near m (goes (At m) first) h.0.quiet (round_goes near m first h.0.quiet busy turn)
    more)
goes_further near s (FoundAt side e) first busy turn more h = absurd cc

-- the last round
goes_last : (near : Side) (s : LinkState) (r : Reached) (first rest : List Act)
    → of_end near (λ link. is_ready link.a) r ≡ true → TakesTurn near r first
    → of_end near (λ link. is_retry_stopped link.a.output) (goes r first) ≡ true
    → TakesTurn near (goes r first) rest → OnState (λ m. Knowing near m × Beside near s m) r
    → OnState (Sent near s) (goes (goes r first) rest)
goes_last near s (At m) first rest busy turn last again h =
    on_state (goes (goes (At m) first) rest) (λ n x. then_beside near s m n h.1 x)
    (leaves near m (goes (At m) first) rest h.0.quiet (round_goes near m first h.0.quiet busy turn)
    last again)
goes_last near s (FoundAt side e) first rest busy turn last again h = absurd cc

-- from how far the rounds before it came
pub sends : (near : Side) (s : LinkState) {r : Reached} {all : List Act} → Sending near r all
    → OnState (λ m. Knowing near m × Beside near s m) r → OnState (Sent near s) (goes r all)
sends near s {r} {all} (LoopRests idle nothing) h = rests_here near s r all idle nothing h
sends near s {r} {all} (LoopGoesOn first rest busy turn split more later) h =
    subst (λ (x : Reached). OnState (Sent near s) x)
    (sym (ap (goes r) split ∙ goes-append first rest r))
    (sends near s later (goes_further near s r first busy turn more h))
sends near s {r} {all} (LoopLeaves first rest busy turn split last again) h =
    subst (λ (x : Reached). OnState (Sent near s) x)
    (sym (ap (goes r) split ∙ goes-append first rest r))
    (goes_last near s r first rest busy turn last again h)

-- What waits at a side is sent.
pub sends_all : (near : Side) (s : LinkState) (all : List Act) → Knowing near s
    → SendsAll near (At s) all → OnState (Sent near s) (goes (At s) all)
sends_all near s all knowing does =
    sends near s
    (subst (λ (b : Bool). MatchBool b (Sending near (At s) all) (all ≡ []))
    (rests_test (from_end near s) knowing.quiet.out) does)
    (knowing, record { queued = refl; received = refl })
