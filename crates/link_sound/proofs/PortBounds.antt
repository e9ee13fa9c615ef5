-- After each step of a history both ends are ports again.
use Rattle.link_sound.proofs.Prelude.{◌≡◌, ℕ, zero, suc, ◌+◌, ◌-◌, ◌<◌, ◌≤◌, ◌==◌, Bool, true, false, Some, None, List, [], ◌∷◌, length, take, slice_get, inl, inr, refl, sym, ap, subst, if◌then◌else◌, arith, eq-eqb, ltb-true, cases_lt, All-nil, slice_get_within, number_of, prio_of, Passes, Input, Arrival, packet_arrival, symbol_arrival, receives, Damaged, Output, Place, IsBounded, distance, no_packets, Sorted, list_at, appended, Buffered, room_for, stored, packet_count, IsInStore, IsOutStore, ArePackets, Covers, Passes-at, Covers-appended, Covers-take, IsOutStore-lists_without, length-lists_without, Event, Ctl, Pkt, Bad, prios_of, expected_of, expects, PortState, IsPort, new_port, acts, is_acted, turns_to, timed_out, ExpectedWithRoom, ExpectedWithoutRoom, UnexpectedAck, InputOk, InputRetryStopped, InputErrorStopped, Forward, Backward, ForwardPacket, IsShut, receiver_of, oldest_of, IsBetween, IsSound, waiting_from, AreBuffers}
use Rattle.std.proofs.Math.ListN.{get_or-eq_default}
use Rattle.link_buffers.proofs.StoreLemmas.{IsInStore-appended, IsOutStore-appended}
use Rattle.link_port.specs.Steps.{symbol_heard}
use Rattle.link_sound.proofs.Bounds.{IsSender, covers_none, nothing_from, turn_sends, time_out_sends, symbol_sends}
use Rattle.link_sound.proofs.Plain.{held_is}
use Rattle.link_sound.proofs.Ranged.{HasAck}
use Rattle.link_sound.proofs.Steps.{is_expected}

-- the expected ackID stays one of five bits
pub expected_below : (what : Arrival) (input : Input) → expected_of input < 32
    → expected_of (receives what input).state < 32
expected_below (ExpectedWithRoom buffers) (InputOk expected) below = omega arith
expected_below (ExpectedWithRoom buffers) (InputRetryStopped expected) below = below
expected_below (ExpectedWithRoom buffers) (InputErrorStopped expected) below = below
expected_below _ (InputOk expected) below = below
expected_below _ (InputRetryStopped expected) below = below
expected_below _ (InputErrorStopped expected) below = below

-- a list that has a packet is one of the lists
list_within : (lists : List (List (List ℕ))) (prio : ℕ) (packet : List ℕ)
    → slice_get (list_at lists prio) 0 ≡ Some packet → prio < length lists
list_within lists prio packet is =
    let some = slice_get_within (list_at lists prio) 0 packet is in
    elim (cases_lt prio (length lists)) [
      | inl within ↦ within
      | inr beyond ↦ let none =
          ap length (get_or-eq_default lists [] beyond) in absurd (omega arith)
    ]

-- a packet with room is put into the store
roomy : (store : Buffered) (packet : List ℕ) → prio_of packet < 4 → Passes packet
    → room_for store (prio_of packet) ≡ true → IsInStore store
    → IsInStore (stored true store packet)
roomy store packet few passes room is =
    let less = ltb-true (packet_count store.lists + (3 - prio_of packet)) store.buffers room in
    IsInStore-appended store.lists store.buffers packet is few passes (omega arith)

expected_store :
    (output : Output) (queued : List (List (List ℕ))) (store : Buffered) (ack : ℕ) (packet : List ℕ)
    (kept_ahead : List Forward) (kept_back : List Backward) (room : Bool)
    (buffers : ℕ) → room_for store (prio_of packet) ≡ room → Covers (prios_of output) queued
    → IsOutStore queued
    → IsBetween output (InputOk ack) queued (ForwardPacket ack packet ∷ kept_ahead) kept_back
    → IsInStore store
    → IsInStore (stored (receives (packet_arrival ack ack room buffers) (InputOk ack)).held store
    packet)
expected_store output queued store ack packet kept_ahead kept_back true buffers room covers four
    b is =
    let first = (held_is output ack queued packet kept_ahead kept_back covers four b).first in
    let long =
    length-lists_without (take (distance (oldest_of output) ack) (prios_of output)) queued in
    let inside = list_within (waiting_from output ack queued) (prio_of packet) packet first in
    let few : prio_of packet < 4 = omega (arith, four.four) in
    let acknowledged = take (distance (oldest_of output) ack) (prios_of output) in
    let waits =
    IsOutStore-lists_without acknowledged queued
    (Covers-take (distance (oldest_of output) ack) (prios_of output) queued covers) four in
    rw (eq-eqb ack ack refl) (roomy store packet few
    (Passes-at (waiting_from output ack queued) (prio_of packet) 0 packet waits.packets few first)
    room is)
expected_store output queued store ack packet kept_ahead kept_back false buffers room covers four
    b is =
    rw (eq-eqb ack ack refl) is

packet_store :
    (output : Output) (queued : List (List (List ℕ))) (store : Buffered) (input : Input) (ack : ℕ)
    (packet : List ℕ) (kept_ahead : List Forward) (kept_back : List Backward) (buffers : ℕ)
    → input ≡ InputOk ack → Covers (prios_of output) queued → IsOutStore queued
    → IsBetween output input queued (ForwardPacket ack packet ∷ kept_ahead) kept_back
    → IsInStore store
    → IsInStore (stored (receives
    (packet_arrival (expected_of input) ack (room_for store (prio_of packet)) buffers) input).held
    store
    packet)
packet_store output queued store input ack packet kept_ahead kept_back buffers same covers four
    b is =
    subst (λ (i : Input). IsInStore (stored
    (receives (packet_arrival (expected_of i) ack (room_for store (prio_of packet)) buffers) i).held
    store
    packet)) (sym same)
    (expected_store output queued store ack packet kept_ahead kept_back
    (room_for store (prio_of packet)) buffers refl covers four
    (subst (λ (i : Input).
    IsBetween output i queued (ForwardPacket ack packet ∷ kept_ahead) kept_back)
    same b) is)

shut_store :
    (same room : Bool) (buffers : ℕ) (store : Buffered) (input : Input) (packet : List ℕ)
    → IsShut (receiver_of input)
    → stored (receives
    (if same then (if room then ExpectedWithRoom buffers else ExpectedWithoutRoom buffers)
    else UnexpectedAck)
    input).held store packet ≡ store
shut_store same room buffers store (InputOk expected) packet shut = absurd shut
shut_store true true buffers store (InputRetryStopped expected) packet shut = refl
shut_store true false buffers store (InputRetryStopped expected) packet shut = refl
shut_store false room buffers store (InputRetryStopped expected) packet shut = refl
shut_store true true buffers store (InputErrorStopped expected) packet shut = refl
shut_store true false buffers store (InputErrorStopped expected) packet shut = refl
shut_store false room buffers store (InputErrorStopped expected) packet shut = refl

dropped_store :
    (store : Buffered) (input : Input) (ack : ℕ) (packet : List ℕ) (room : Bool)
    (buffers : ℕ) → expects input ack ≡ false
    → stored (receives (packet_arrival (expected_of input) ack room buffers) input).held store
    packet
    ≡ store
dropped_store store (InputOk expected) ack packet room buffers other = rw other refl
dropped_store store (InputRetryStopped expected) ack packet room buffers other =
    shut_store (ack == expected) room buffers store (InputRetryStopped expected) packet tt
dropped_store store (InputErrorStopped expected) ack packet room buffers other =
    shut_store (ack == expected) room buffers store (InputErrorStopped expected) packet tt

-- what a sender sends leaves a port, if the packets that it may have to send are there
sent_port : (a : PortState) (output : Output) → IsPort a
    → (IsSender a.output a.queued → IsSender output a.queued)
    → IsPort (record a { output = output })
sent_port a output is sends =
    let sent = sends (record { window_is = is.outstanding; covered = is.covered }) in
    record {
      outstanding = sent.window_is;
      covered = sent.covered;
      expected_ack = is.expected_ack;
      sends = is.sends;
      receives = is.receives;
      bounded = is.bounded;
    }

pub turn_port : (a : PortState) → IsPort a → IsPort (turns_to a)
turn_port a is = sent_port a (turns_to a).output is (turn_sends a.tells a.output a.queued)

pub time_out_port : (a : PortState) → IsPort a → IsPort (timed_out a)
time_out_port a is = sent_port a (timed_out a).output is (time_out_sends a.output a.queued)

pub put_port :
    (a : PortState) (packet : List ℕ) → prio_of packet < 4 → Passes packet
    → length (list_at a.queued (prio_of packet)) < 16 → IsPort a
    → IsPort (record a { queued = appended a.queued (prio_of packet) packet })
put_port a packet few passes room is = record {
  outstanding = is.outstanding;
  covered =
      Covers-appended (prios_of a.output) a.queued (prio_of packet) packet is.covered
      (omega (arith, is.sends.four));
  expected_ack = is.expected_ack;
  sends = IsOutStore-appended a.queued packet is.sends few passes room;
  receives = is.receives;
  bounded = is.bounded;
}

pub read_port : (a : PortState) (received : Buffered) (place : Place) → IsInStore received
    → IsBounded place.text → IsPort a → IsPort (record a { received = received; place = place })
read_port a received place store bounded is = record {
  outstanding = is.outstanding;
  covered = is.covered;
  expected_ack = is.expected_ack;
  sends = is.sends;
  receives = store;
  bounded = bounded;
}

pub acted_port :
    (a b : PortState) (kept_a kept_b : List Event) (e : Event) → IsPort a → IsPort b
    → HasAck e → is_acted a e ≡ true → IsSound a b kept_a (e ∷ kept_b) → IsPort (acts a e).port
acted_port a b kept_a kept_b (Ctl symbol) is far below acted s =
    let sends =
    symbol_sends symbol a.output b.input a.queued _ _ below s.a_to_b (record {
      window_is = is.outstanding;
      covered = is.covered;
    }) in
    record {
      outstanding = sends.window_is;
      covered = sends.covered;
      expected_ack = expected_below (symbol_arrival symbol.s1 symbol.cmd) a.input is.expected_ack;
      sends =
          IsOutStore-lists_without (take (symbol_heard a symbol).freed (prios_of a.output)) a.queued
          (Covers-take (symbol_heard a symbol).freed (prios_of a.output) a.queued is.covered)
          is.sends;
      receives = is.receives;
      bounded = is.bounded;
    }
acted_port a b kept_a kept_b (Pkt ack packet) is far below acted s = record {
  outstanding = is.outstanding;
  covered = is.covered;
  expected_ack = expected_below _ a.input is.expected_ack;
  sends = is.sends;
  receives =
      packet_store b.output b.queued a.received a.input ack packet _ _ _
      (is_expected a.input ack acted) far.covered far.sends s.b_to_a is.receives;
  bounded = is.bounded;
}
acted_port a b kept_a kept_b (Bad cause) is far below acted s = absurd cc

pub other_port : (a : PortState) (e : Event) → IsPort a → is_acted a e ≡ false
    → IsPort (acts a e).port
other_port a (Ctl symbol) is other = absurd cc
other_port a (Pkt ack packet) is other = record {
  outstanding = is.outstanding;
  covered = is.covered;
  expected_ack = expected_below _ a.input is.expected_ack;
  sends = is.sends;
  receives =
      subst (λ (store : Buffered). IsInStore store) (sym (dropped_store a.received a.input ack
      packet (room_for a.received (prio_of packet)) _ other)) is.receives;
  bounded = is.bounded;
}
other_port a (Bad cause) is other = record {
  outstanding = is.outstanding;
  covered = is.covered;
  expected_ack = expected_below (Damaged (number_of cause)) a.input is.expected_ack;
  sends = is.sends;
  receives = is.receives;
  bounded = is.bounded;
}

-- a store without a packet
none_sorted : Sorted no_packets
none_sorted zero few = All-nil _
none_sorted (suc zero) few = All-nil _
none_sorted (suc (suc zero)) few = All-nil _
none_sorted (suc (suc (suc zero))) few = All-nil _
none_sorted (suc (suc (suc (suc prio)))) few = absurd (omega arith)

none_there : ArePackets no_packets
none_there zero few = All-nil _
none_there (suc zero) few = All-nil _
none_there (suc (suc zero)) few = All-nil _
none_there (suc (suc (suc zero))) few = All-nil _
none_there (suc (suc (suc (suc prio)))) few = absurd (omega arith)

none_within : (prio : ℕ) → prio < 4 → length (list_at no_packets prio) ≤ 16
none_within zero few = omega arith
none_within (suc zero) few = omega arith
none_within (suc (suc zero)) few = omega arith
none_within (suc (suc (suc zero))) few = omega arith
none_within (suc (suc (suc (suc prio)))) few = absurd (omega arith)

-- a new port
pub new_is_port : (tells : Bool) (buffers : ℕ) → AreBuffers buffers
    → IsPort (new_port tells buffers)
new_is_port tells buffers is = record {
  outstanding = nothing_from 0 None (omega arith) tt;
  covered = covers_none no_packets;
  expected_ack = omega arith;
  sends = record { four = refl; sorted = none_sorted; packets = none_there; within = none_within };
  receives = record {
    four = refl;
    sorted = none_sorted;
    packets = none_there;
    within = omega (arith, is.0);
    least = is.0;
    most = is.1;
  };
  bounded = tt;
}
