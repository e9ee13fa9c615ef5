-- One packet is sent on a link of which both directions are at rest, and what comes of it.
use Rattle.link_machine.proofs.Prelude.{◌≡◌, ℕ, ◌<◌, ◌∷◌, [], Bool, true, false, List, slice_get, Some, refl, sym, ap, ◌∙◌, subst, arith, Char, Fields, prio_of, Passes, Output, from_ack, Place, place, at_rest, Text, Within, list_at, room_for, highest, Nothing, PortState, IsPort, expected_of, buffer_status, turn_sends, turns_to, is_ready, standing_range, credited, reported, last_report, opened, Side, LinkState, from_end, IsSoundLink, port_fed, port_answers, chars_of, AreAnswers, Act, At, goes, OnState, is_some, TakesTurn, IsAtRest, KnowsRoom}
use Rattle.link_machine.proofs.Machine.{from_end_keeps}
use Rattle.link_machine.proofs.Settling.AnswerLaws.{port_narrow}
use Rattle.link_machine.proofs.Settling.Signals.{fed_none, answered_none, unbroken_leaves}
use Rattle.link_machine.proofs.Settling.Packets.{sent_by, told_by, status_after, answer_by, held_by, report_by, replied_by, one_out, packet_fed, answer_fed, turn_starts, turn_sends_packet}
use Rattle.link_machine.proofs.Settling.Exchanges.{Exchanged}
use Rattle.link_machine.proofs.Settling.Drains.{on_state, AreEmpty, answers_are}
use Rattle.link_machine.proofs.Settling.Restarting.{rest_place, unended}
use Rattle.link_machine.proofs.Settling.TurnLaws.{third_answers, turn_goes}
use Rattle.link_machine.proofs.Settling.Waiting.{First, first_waiting, ready_is, credited_some, All-first}

-- ---- a round

pub resting_open : (t : Text) → at_rest (place t Nothing) ≡ true
    → at_rest (place (opened t) Nothing) ≡ true
resting_open (Within bytes) rests = absurd cc
resting_open _ rests = refl

-- the ports after a packet was sent and its answer came back
pub record Round (room : Bool) (ack : ℕ) (p q m_a m_b : PortState) : Type 0 where
  pub prio : ℕ
  pub packet : List ℕ
  pub highest_is : highest p.queued ≡ Some prio
  pub first : slice_get (list_at p.queued prio) 0 ≡ Some packet
  pub has : room_for q.received (prio_of packet) ≡ room
  pub a : m_a ≡ replied_by room ack prio (report_by room ack (status_after room q packet))
      (opened p.place.text) p
  pub b : m_b ≡ held_by room ack packet (told_by p) q

-- the port that takes a turn, and the other, both directions at rest, and a packet that starts
record Ready (p q : PortState) : Type 0 where
  out : IsAtRest p q
  into : IsAtRest q p
  packet_is : First p.queued
  credit : credited (from_ack out.ack out.report) (highest p.queued) ≡ Some packet_is.prio
  form : Passes packet_is.packet
  near : IsPort p
  far : IsPort q

ready_ack : (p q : PortState) (r : Ready p q) → r.out.ack < 32
ready_ack p q r =
    let same = ap expected_of r.out.receiver_ok in let below = r.far.expected_ack in omega arith

ready_chars : (p q : PortState) (r : Ready p q)
    → (turn_sends p).chars ≡ sent_by p r.out.ack r.packet_is.packet
ready_chars p q r =
    turn_sends_packet p r.out.ack r.packet_is.prio r.out.report r.packet_is.packet
    (ready_ack p q r) r.out.sender_ok r.credit r.packet_is.first

-- the far port takes the packet, and the near one the answer
record Answered (room : Bool) (p q : PortState) (cs : List Char) (r : Ready p q) : Type 0 where
  far : port_fed q cs ≡ held_by room r.out.ack r.packet_is.packet (told_by p) q
  answers : port_answers q cs
      ≡ answer_by room r.out.ack (status_after room q r.packet_is.packet) ∷ []
  near : port_fed (turns_to p) (chars_of (port_answers q cs))
      ≡ replied_by room r.out.ack r.packet_is.prio
      (report_by room r.out.ack (status_after room q r.packet_is.packet)) (opened p.place.text) p
  none : port_answers (turns_to p) (chars_of (port_answers q cs)) ≡ []

answered_by : (room : Bool) (p q : PortState) (r : Ready p q)
    → room_for q.received (prio_of r.packet_is.packet) ≡ room
    → Answered room p q (sent_by p r.out.ack r.packet_is.packet) r
answered_by room p q r has =
    let ack = r.out.ack in
    let prio = r.packet_is.prio in
    let cs = sent_by p ack r.packet_is.packet in
    let buffers = status_after room q r.packet_is.packet in
    let at = standing_range p r.near in
    let far_place = rest_place q.place r.out.place in
    let far_rests : at_rest (place q.place.text Nothing) ≡ true =
    subst (λ (from : Place). at_rest from ≡ true) far_place r.out.place in
    let does =
    packet_fed q q.place.text (expected_of p.input) (buffer_status p.tells p.received) ack
    r.packet_is.packet room far_place far_rests at.expected at.buffers (ready_ack p q r) r.form
    r.out.receiver_ok has in
    let are = answers_are q cs (port_narrow q r.far) in
    let one : AreAnswers (answer_by room ack buffers ∷ []) =
    subst (λ (ss : List Fields). AreAnswers ss) does.1 are in
    let turn =
    turn_starts p ack prio r.out.report (ready_ack p q r) r.out.sender_ok r.credit in
    let sent = record p { output = Output.Ok (one_out ack prio r.out.report) } in
    let near_place = rest_place p.place r.into.place in
    record {
      far = does.0;
      answers = does.1;
      near =
          (λ i. port_fed (turn i) (chars_of (does.1 i)))
          ∙ answer_fed room sent p.place.text ack prio buffers r.out.report refl near_place one;
      none = (unbroken_leaves (turns_to p) p.place.text (port_answers q cs) near_place
          are).0.silent;
    }

round_silent : (room : Bool) (p q : PortState) (cs : List Char) (r : Ready p q)
    → Answered room p q cs r → third_answers (turns_to p) q cs ≡ []
unfolding chars_of
round_silent room p q cs r h =
    ap (λ (ss : List Fields). port_answers (port_fed q cs) (chars_of ss)) h.none
    ∙ answered_none (port_fed q cs)

round_over : (room : Bool) (p q : PortState) (cs : List Char) (r : Ready p q) (m : LinkState)
    → room_for q.received (prio_of r.packet_is.packet) ≡ room → Answered room p q cs r
    → Exchanged (turns_to p) q cs m
    → Round room r.out.ack p q m.a m.b
unfolding chars_of
round_over room p q cs r m has h x = record {
  prio = r.packet_is.prio;
  packet = r.packet_is.packet;
  highest_is = r.packet_is.highest_is;
  first = r.packet_is.first;
  has = has;
  a = x.a ∙ h.near;
  b =
      x.b
      ∙ ap (λ (ss : List Fields). port_fed (port_fed q cs) (chars_of ss)) h.none
      ∙ fed_none (port_fed q cs)
      ∙ h.far;
}

-- ---- a link of which both directions are at rest

pub record Quiet (near : Side) (m : LinkState) : Type 0 where
  pub sound : IsSoundLink m
  pub none : AreEmpty m
  pub out : IsAtRest (from_end near m).a (from_end near m).b
  pub into : IsAtRest (from_end near m).b (from_end near m).a

-- a link after a round: it is sound and empty
pub record AfterRound (near : Side) (s m : LinkState) : Type 0 where
  pub sound : IsSoundLink m
  pub none : AreEmpty m
  pub room : Bool
  pub ack : ℕ
  pub round : Round room ack (from_end near s).a (from_end near s).b (from_end near m).a
      (from_end near m).b

ready : (near : Side) (s : LinkState) → Quiet near s → is_ready (from_end near s).a ≡ true
    → Ready (from_end near s).a (from_end near s).b
ready near s quiet starts =
    let t = from_end near s in
    let l = from_end_keeps near s quiet.sound in
    let some =
    sym (ready_is t.a quiet.out.ack quiet.out.report quiet.out.sender_ok) ∙ starts in
    let same =
    credited_some (from_ack quiet.out.ack quiet.out.report) (highest t.a.queued) some in
    let first =
    first_waiting t.a.queued (highest t.a.queued) refl (sym (ap is_some same) ∙ some) in
    record {
      out = quiet.out;
      into = quiet.into;
      packet_is = first;
      credit = same ∙ first.highest_is;
      form =
          All-first Passes (list_at t.a.queued first.prio) first.packet
          (l.port_a.sends.packets first.prio first.few) first.first;
      near = l.port_a;
      far = l.port_b;
    }

pub round_goes : (near : Side) (s : LinkState) (all : List Act) → Quiet near s
    → is_ready (from_end near s).a ≡ true → TakesTurn near (At s) all
    → OnState (AfterRound near s) (goes (At s) all)
round_goes near s all quiet starts turn =
    let t = from_end near s in
    let r = ready near s quiet starts in
    let room = room_for t.b.received (prio_of r.packet_is.packet) in
    let cs = sent_by t.a r.out.ack r.packet_is.packet in
    let h = answered_by room t.a t.b r refl in
    on_state (goes (At s) all)
    (λ m x. record {
      sound = unended near m x.0.sound;
      none = x.1;
      room = room;
      ack = r.out.ack;
      round = round_over room t.a t.b cs r (from_end near m) refl h x.0;
    })
    (turn_goes near s all cs quiet.sound quiet.none (ready_chars t.a t.b r)
    (round_silent room t.a t.b cs r h) turn)

-- ---- what each port knows of the room of the other

-- after a round the sender knows what the far port tells
pub round_knows : (room : Bool) {ack : ℕ} {p q u v : PortState} → Round room ack p q u v
    → KnowsRoom u v
round_knows true r = ap (λ (y : PortState). last_report y.output) r.a ∙ sym (ap told_by r.b)
round_knows false r = ap (λ (y : PortState). last_report y.output) r.a ∙ sym (ap told_by r.b)

-- and the far port what the sender tells
pub round_tells : {room : Bool} {ack : ℕ} {p q u v : PortState} → Round room ack p q u v
    → IsAtRest q p → KnowsRoom v u
round_tells {room} {ack} {p} {q} {u} {v} r rests =
    ap (λ (y : PortState). last_report y.output) r.b
    ∙ ap (λ (o : Output). last_report (reported (told_by p) o)) rests.sender_ok
    ∙ sym (ap told_by r.a)
