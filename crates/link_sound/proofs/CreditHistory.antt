-- What is told of free buffers stays true in every history, and the packets of a sender that was
-- told in time find room.
use Rattle.link_sound.proofs.Prelude.{◌≡◌, ◌≢◌, ℕ, ◌+◌, Bool, true, false, IfSome, List, [], ◌∷◌, map, length, inl, inr, refl, subst, arith, cases_Bool, room_for, stored, prio_of, number_of, Input, Arrival, Received, packet_arrival, symbol_arrival, receives, Damaged, PACKET_RETRY, ExpectedWithRoom, ExpectedWithoutRoom, UnexpectedAck, RestartFromRetry, LinkRequest, OtherStype1, InputOk, InputRetryStopped, InputErrorStopped, Event, Ctl, Pkt, Bad, PortState, acts, is_acted, buffer_status, prios_of, expected_of, Forward, is_packet, ForwardPacket, ForwardRestart, ForwardRequest, Receiver, ReceiverRetryStopped, ReceiverOk, ReceiverErrorStopped, Lacks, forward, receiver_of, IsSound, HasTold, FindsRoom, free_buffers, HaveRoom, HaveRoomAt, Link, link_turned_round, IsHistory, Rests, AtFirst, AtSecond, LeaveRoom, IsLinked, IsToldInTime}
use Rattle.link_sound.proofs.Steps.{exchanged}
use Rattle.link_sound.proofs.CreditSteps.{step_linked, round_linked, Hears, hearer_step, teller_step}
use Rattle.link_sound.proofs.CreditTimely.{known_from_told, told_from_known, known_from_room, room_from_known, IsKnown}
use Rattle.link_sound.proofs.CreditTeller as teller

history_known : (timely : Bool) (l end : Link) (history : IsHistory l end) → LeaveRoom history
    → IsLinked l → Hears timely l → IsLinked end × Hears timely end
history_known timely l end (Rests _) leave is k = (is, k)
history_known timely l end (AtFirst {next} _ step more) leave is k =
    history_known timely next end more leave (step_linked l next step is)
    (hearer_step timely l next step is k)
history_known timely l end (AtSecond {next} _ step more) leave is k =
    let round = round_linked l is in
    history_known timely (link_turned_round next) end more leave.1
    (round_linked next (step_linked (link_turned_round l) next step round))
    (teller_step timely (link_turned_round l) next step leave.0 round k)

-- what was told stays true
pub told_stays : (l end : Link) (history : IsHistory l end) → LeaveRoom history → IsLinked l
    → HasTold l.a l.b l.kept_b → HasTold end.a end.b end.kept_b
told_stays l end history leave linked told =
    told_from_known end.a end.b end.kept_a end.kept_b
    (history_known false l end history leave linked
    (known_from_told l.a l.b l.kept_a l.kept_b told)).1

-- no packet is on its way
unstarted_room : (total least next : ℕ) (kept : List Forward) → Lacks is_packet kept
    → HaveRoom total least next kept
unstarted_room total least next [] none = tt
unstarted_room total least next (ForwardPacket ack packet ∷ kept) none = absurd cc
unstarted_room total least next (ForwardRestart ∷ kept) none =
    unstarted_room total least next kept none.1
unstarted_room total least next (ForwardRequest ∷ kept) none =
    unstarted_room total least next kept none.1
unstarted_room total least next (Forward.Other ∷ kept) none =
    unstarted_room total least next kept none.1

-- wherever the receiver stands that waits for no restart-from-retry
unstarted_at : (r : Receiver) (total held next : ℕ) (kept : List Forward)
    → r ≢ ReceiverRetryStopped → Lacks is_packet kept → HaveRoomAt r total held next kept
unstarted_at ReceiverOk total held next kept stands none = unstarted_room total held next kept none
unstarted_at ReceiverRetryStopped total held next kept stands none = absurd (stands refl)
unstarted_at ReceiverErrorStopped total held next kept stands none = tt

-- a port that was told in time
pub room_in_time : (l : Link) → IsToldInTime l → FindsRoom l.a l.b l.kept_a l.kept_b
room_in_time l is = record {
  tells = is.told.tells;
  freed = is.told.freed;
  held = is.told.held;
  counted = is.told.counted;
  report = is.report;
  room =
      unstarted_at (receiver_of l.b.input) (free_buffers l.b.received + is.told.held) is.told.held
      (is.told.freed + length (prios_of l.a.output)) (map forward l.kept_a) is.takes
      is.none_comes;
}

end_in_time : (l end : Link) (history : IsHistory l end) → LeaveRoom history → IsToldInTime l
    → IsLinked end × Hears true end
end_in_time l end history leave is =
    history_known true l end history leave is.linked
    (known_from_room l.a l.b l.kept_a l.kept_b (room_in_time l is))

find_open : (r : Receiver) (total held next : ℕ) (kept : List Forward)
    → HaveRoomAt r total held next kept → r ≢ ReceiverRetryStopped
find_open ReceiverOk total held next kept find is = absurd cc
find_open ReceiverRetryStopped total held next kept find is = find
find_open ReceiverErrorStopped total held next kept find is = absurd cc

pub known_open : (a b : PortState) (kept_a kept_b : List Event) → IsKnown true a b kept_a kept_b
    → receiver_of b.input ≢ ReceiverRetryStopped
known_open a b kept_a kept_b k =
    find_open (receiver_of b.input) _ k.held _ (map forward kept_a) k.in_time.1

-- its far port does not wait for a restart-from-retry
pub room_open : (a b : PortState) (kept_a kept_b : List Event) → FindsRoom a b kept_a kept_b
    → receiver_of b.input ≢ ReceiverRetryStopped
room_open a b kept_a kept_b f = known_open a b kept_a kept_b (known_from_room a b kept_a kept_b f)

pub stays_in_time : (l end : Link) (history : IsHistory l end) → LeaveRoom history → IsToldInTime l
    → FindsRoom end.a end.b end.kept_a end.kept_b
stays_in_time l end history leave is =
    room_from_known end.a end.b end.kept_a end.kept_b (end_in_time l end history leave is).1

-- what is answered is no packet-retry, or the receiver waits then
abbrev NoRetry : Received → Type 0
NoRetry does =
    (receiver_of does.state ≢ ReceiverRetryStopped)
    → IfSome does.reply (λ answer. answer.s0 ≢ PACKET_RETRY)

no_retry : (what : Arrival) (input : Input) → NoRetry (receives what input)
no_retry (ExpectedWithRoom buffers) (InputOk e) stands = λ is. omega arith
no_retry (ExpectedWithRoom buffers) (InputRetryStopped e) stands = tt
no_retry (ExpectedWithRoom buffers) (InputErrorStopped e) stands = tt
no_retry (ExpectedWithoutRoom buffers) (InputOk e) stands = absurd (stands refl)
no_retry (ExpectedWithoutRoom buffers) (InputRetryStopped e) stands = tt
no_retry (ExpectedWithoutRoom buffers) (InputErrorStopped e) stands = tt
no_retry UnexpectedAck (InputOk e) stands = λ is. omega arith
no_retry UnexpectedAck (InputRetryStopped e) stands = tt
no_retry UnexpectedAck (InputErrorStopped e) stands = tt
no_retry (Damaged cause) (InputOk e) stands = λ is. omega arith
no_retry (Damaged cause) (InputRetryStopped e) stands = λ is. omega arith
no_retry (Damaged cause) (InputErrorStopped e) stands = tt
no_retry RestartFromRetry (InputOk e) stands = λ is. omega arith
no_retry RestartFromRetry (InputRetryStopped e) stands = tt
no_retry RestartFromRetry (InputErrorStopped e) stands = tt
no_retry LinkRequest (InputOk e) stands = λ is. omega arith
no_retry LinkRequest (InputRetryStopped e) stands = λ is. omega arith
no_retry LinkRequest (InputErrorStopped e) stands = λ is. omega arith
no_retry OtherStype1 (InputOk e) stands = tt
no_retry OtherStype1 (InputRetryStopped e) stands = tt
no_retry OtherStype1 (InputErrorStopped e) stands = tt

pub answer_no_retry : (q : PortState) (e : Event)
    → (receiver_of (acts q e).port.input ≢ ReceiverRetryStopped)
    → IfSome (acts q e).reply (λ answer. answer.s0 ≢ PACKET_RETRY)
answer_no_retry q (Ctl symbol) stands =
    no_retry (symbol_arrival symbol.s1 symbol.cmd) q.input stands
answer_no_retry q (Pkt ack packet) stands =
    let room = room_for q.received (prio_of packet) in
    no_retry (packet_arrival (expected_of q.input) ack room
    (buffer_status q.tells (stored room q.received packet))) q.input stands
answer_no_retry q (Bad cause) stands = no_retry (Damaged (number_of cause)) q.input stands

-- and never answers with packet-retry
pub no_retry_replied :
    (l end : Link) (history : IsHistory l end) (e : Event) → LeaveRoom history → IsToldInTime l
    → (is_acted end.b e ≡ true → (rest : List Event) × (end.kept_a ≡ e ∷ rest))
    → IfSome (acts end.b e).reply (λ answer. answer.s0 ≢ PACKET_RETRY)
no_retry_replied l end history e leave is first =
    let all = end_in_time l end history leave is in
    let sound = exchanged end.a end.b end.kept_a end.kept_b all.0.sound in
    elim (cases_Bool (is_acted end.b e)) [
      | inl does ↦
          let came = first does in
          answer_no_retry end.b e (known_open end.a (acts end.b e).port came.0 _
          (teller.acted_told true end.a end.b came.0 end.kept_b e all.0.port_b all.0.port_a does
          (subst (λ (es : List Event). IsSound end.b end.a end.kept_b es) came.1 sound)
          (subst (λ (es : List Event). IsKnown true end.a end.b es end.kept_b) came.1 all.1)))
      | inr not ↦
          answer_no_retry end.b e (known_open end.a (acts end.b e).port end.kept_a _
          (teller.other_told true end.a end.b end.kept_a end.kept_b e not all.1))
    ]
