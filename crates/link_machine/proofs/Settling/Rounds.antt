-- Each round of the last step is a packet held and freed, or the last.
use Rattle.link_machine.proofs.Prelude.{◌≡◌, inl, inr, ℕ, Bool, true, false, List, length, sym, ap, ◌∙◌, subst, arith, popped, packet_count, packet_count-popped, highest_below-some, PortState, is_ready, Side, A, B, LinkState, from_end, IsSoundLink, Act, At, goes, OnState, is_retry_stopped, of_end, TakesTurn, IsBlocked, IsQuiet, KnowsRoom, HasPassed, IsRound}
use Rattle.link_machine.proofs.Machine.{from_end_keeps}
use Rattle.link_machine.proofs.Settling.Drains.{on_state}
use Rattle.link_machine.proofs.Settling.SendingRounds.{Round, Quiet, AfterRound, round_goes}
use Rattle.link_machine.proofs.Settling.RoomLaws.{starts_with_room}

pub quiet_at : (near : Side) (s : LinkState) → IsSoundLink s → IsQuiet s → Quiet near s
quiet_at A s l q = record {
  sound = l;
  none = (q.wire_a, q.wire_b);
  out = q.a_to_b;
  into = q.b_to_a;
}
quiet_at B s l q = record {
  sound = l;
  none = (q.wire_a, q.wire_b);
  out = q.b_to_a;
  into = q.a_to_b;
}

passed : (t u : LinkState) (ack : ℕ) → length t.a.queued ≡ 4 → Round true ack t.a t.b u.a u.b
    → HasPassed t u
passed t u ack four r =
    let found = highest_below-some 4 r.prio t.a.queued r.highest_is in
    let one = packet_count-popped t.a.queued r.prio (omega arith) found.1 in
    let freed : u.a.queued ≡ popped t.a.queued r.prio = ap (λ (p : PortState). p.queued) r.a in
    let same = ap packet_count freed in
    record {
      prio = r.prio;
      packet = r.packet;
      highest_is = r.highest_is;
      first = r.first;
      room = r.has;
      held = ap (λ (q : PortState). q.received) r.b;
      freed = freed;
      less = omega arith;
    }

blocked : (t u : LinkState) (ack : ℕ) → Round false ack t.a t.b u.a u.b
    → IsBlocked t.a.queued t.b.received
blocked t u ack r = record {
  prio = r.prio;
  packet = r.packet;
  highest_is = r.highest_is;
  first = r.first;
  full = r.has;
}

by_room : (t u : LinkState) (room : Bool) (ack : ℕ) → length t.a.queued ≡ 4
    → Round room ack t.a t.b u.a u.b → IsRound t u
by_room t u true ack four r =
    inl (passed t u ack four r, ap (λ (p : PortState). is_retry_stopped p.output) r.a)
by_room t u false ack four r =
    inr (blocked t u ack r, ap (λ (p : PortState). is_retry_stopped p.output) r.a)

pub after_round : (near : Side) (s m : LinkState) → IsSoundLink s → AfterRound near s m
    → IsRound (from_end near s) (from_end near m)
after_round near s m l h =
    by_room (from_end near s) (from_end near m) h.room h.ack (from_end_keeps near s
    l).port_a.sends.four
    h.round

-- A round, from a link at rest on which a turn starts a packet.
pub round_is : (near : Side) (s : LinkState) (all : List Act) → IsSoundLink s → IsQuiet s
    → of_end near (λ link. is_ready link.a) (At s) ≡ true → TakesTurn near (At s) all
    → OnState (λ m. IsSoundLink m × IsRound (from_end near s) (from_end near m)) (goes (At s) all)
round_is near s all l quiet some turn =
    on_state (goes (At s) all) (λ m x. (x.sound, after_round near s m l x))
    (round_goes near s all (quiet_at near s l quiet) some turn)

-- a packet had room, if the far port tells its free buffers and the sender knows of them
told_passes : (near : Side) (s m : LinkState) → Quiet near s
    → KnowsRoom (from_end near s).a (from_end near s).b → (from_end near s).b.tells ≡ true
    → is_ready (from_end near s).a ≡ true → AfterRound near s m
    → HasPassed (from_end near s) (from_end near m)
told_passes near s m quiet knows tells starts h =
    let t = from_end near s in
    let l = from_end_keeps near s quiet.sound in
    let r = h.round in
    let room : h.room ≡ true =
    sym r.has
    ∙ starts_with_room t.a t.b quiet.out r.prio r.packet knows l.port_a l.port_b tells starts
    r.highest_is r.first in
    passed t (from_end near m) h.ack l.port_a.sends.four
    (subst (λ (b : Bool). Round b h.ack t.a t.b (from_end near m).a (from_end near m).b) room r)

pub told_round_is : (near : Side) (s : LinkState) (all : List Act) → IsSoundLink s → IsQuiet s
    → KnowsRoom (from_end near s).a (from_end near s).b
    → of_end near (λ link. link.b.tells) (At s) ≡ true
    → of_end near (λ link. is_ready link.a) (At s) ≡ true → TakesTurn near (At s) all
    → OnState (λ m. HasPassed (from_end near s) (from_end near m)) (goes (At s) all)
told_round_is near s all l quiet knows tells some turn =
    let rests = quiet_at near s l quiet in
    on_state (goes (At s) all) (λ m x. told_passes near s m rests knows tells some x)
    (round_goes near s all rests some turn)
