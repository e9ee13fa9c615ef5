-- Each step of a port keeps both directions of its link.
use Rattle.link_sound.proofs.Prelude.{◌≡◌, ℕ, Bool, true, false, Option, Some, None, List, [], ◌∷◌, ◌++◌, map, length, inl, refl, sym, ap, ◌∙◌, subst, arith, ◌<◌, eqb-true, map-append, Fields, number_of, prio_of, Place, from_ack, Input, Arrival, packet_arrival, symbol_arrival, receives, Damaged, times_out, hears_report, Buffered, room_for, stored, appended, Covers, Event, Ctl, Pkt, Bad, buffer_status, prios_of, expected_of, expects, PortState, acts, is_acted, packets_of-appended, stype0, InputOk, Forward, Backward, ForwardPacket, Neutral, IsDirection, forward, backward, reply_forward, reply_backward, sender_of, receiver_of, IsBetween, IsSound, reply_sent}
use Rattle.link_model.specs.Output as out
use Rattle.link_sound.proofs.MoveLaws.{lost_front}
use Rattle.link_sound.proofs.TurnMoves.{emptied, time_is_out}
use Rattle.link_port.specs.Steps.{acts_symbol, acts_packet}
use Rattle.link_port.specs.Turns as turn
use Rattle.link_sound.proofs.Turning.{own_turn, other_turn, tell_ahead, tell_back}
use Rattle.link_sound.proofs.Hearing.{one_lost, symbol_heard}
use Rattle.link_sound.proofs.Receiving.{symbol_keeps, damaged_keeps, expected_keeps, unexpected_keeps, reply_keeps}

-- the two ports in the other order
pub exchanged : (a b : PortState) (kept_a kept_b : List Event) → IsSound a b kept_a kept_b
    → IsSound b a kept_b kept_a
exchanged a b kept_a kept_b s = record { a_to_b = s.b_to_a; b_to_a = s.a_to_b }

-- what is sent is appended
sent_ahead :
    (output : out.Output) (input : Input) (queued : List (List (List ℕ))) (kept more : List Event)
    (kept_back : List Backward)
    → IsBetween output input queued (map forward kept ++ map forward more) kept_back
    → IsBetween output input queued (map forward (kept ++ more)) kept_back
sent_ahead output input queued kept more kept_back b =
    subst (λ (fs : List Forward). IsBetween output input queued fs kept_back)
    (sym (map-append forward kept more)) b

sent_back :
    (output : out.Output) (input : Input) (queued : List (List (List ℕ)))
    (kept_ahead : List Forward) (kept more : List Event)
    → IsBetween output input queued kept_ahead (map backward kept ++ map backward more)
    → IsBetween output input queued kept_ahead (map backward (kept ++ more))
sent_back output input queued kept_ahead kept more b =
    subst (λ (bs : List Backward). IsBetween output input queued kept_ahead bs)
    (sym (map-append backward kept more)) b

reply_forward_is : (reply : Option Fields) → reply_forward reply ≡ map forward (reply_sent reply)
reply_forward_is None = refl
reply_forward_is (Some symbol) = refl

reply_backward_is : (reply : Option Fields) → reply_backward reply ≡ map backward (reply_sent reply)
reply_backward_is None = refl
reply_backward_is (Some symbol) = refl

replied_ahead :
    (what : Arrival) (half : Input) (output : out.Output) (input : Input)
    (queued : List (List (List ℕ))) (kept : List Event) (kept_back : List Backward)
    → IsBetween output input queued (map forward kept) kept_back
    → IsBetween output input queued (map forward (kept ++ reply_sent (receives what half).reply))
    kept_back
replied_ahead what half output input queued kept kept_back b =
    let reply = (receives what half).reply in
    sent_ahead output input queued kept (reply_sent reply) kept_back
    (subst (λ (fs : List Forward). IsBetween output input queued (map forward kept ++ fs) kept_back)
    (reply_forward_is reply)
    (reply_keeps what half output input queued (map forward kept) kept_back b))

replied_back :
    (output : out.Output) (input : Input) (queued : List (List (List ℕ)))
    (kept_ahead : List Forward) (kept : List Event) (reply : Option Fields)
    → IsBetween output input queued kept_ahead (map backward kept ++ reply_backward reply)
    → IsBetween output input queued kept_ahead (map backward (kept ++ reply_sent reply))
replied_back output input queued kept_ahead kept reply b =
    sent_back output input queued kept_ahead kept (reply_sent reply)
    (subst
    (λ (bs : List Backward). IsBetween output input queued kept_ahead (map backward kept ++ bs))
    (reply_backward_is reply) b)

-- a turn
pub turn_keeps :
    (a b : PortState) (kept_a kept_b : List Event) → Covers (prios_of a.output) a.queued
    → IsSound a b kept_a kept_b
    → IsSound (turn.turns_to a) b (kept_a ++ (turn.turn_sends a).sent) kept_b
turn_keeps a b kept_a kept_b covers s = record {
  a_to_b =
      sent_ahead (turn.port_turn a).state b.input a.queued kept_a (turn.turn_sends a).sent
      (map backward kept_b)
      (own_turn a.tells a.output b.input a.queued a (map forward kept_a)
      (map backward kept_b) covers s.a_to_b);
  b_to_a = sent_back b.output a.input b.queued (map forward kept_b) kept_a (turn.turn_sends a).sent
      (other_turn b.output a.input b.queued (turn.port_turn a).sends a
      (turn.waiting_in a) (map forward kept_b) (map backward kept_a) s.b_to_a);
}

-- a port tells its free buffers once more
pub tell_keeps : (a b : PortState) (kept_a kept_b : List Event) → IsSound a b kept_a kept_b
    → IsSound a b (kept_a ++ (turn.tell_sends a).sent) kept_b
tell_keeps a b kept_a kept_b s = record {
  a_to_b =
      sent_ahead a.output b.input a.queued kept_a (turn.tell_sends a).sent (map backward kept_b)
      (tell_ahead a.tells a a.output b.input a.queued (map forward kept_a)
      (map backward kept_b) s.a_to_b);
  b_to_a =
      sent_back b.output a.input b.queued (map forward kept_b) kept_a (turn.tell_sends a).sent
      (tell_back a.tells a b.output a.input b.queued (map forward kept_b)
      (map backward kept_a) s.b_to_a);
}

-- a symbol that the far port sent
symbol_acted :
    (a b : PortState) (kept_a kept_b : List Event) (symbol : Fields)
    → Covers (prios_of a.output) a.queued → IsSound a b kept_a (Ctl symbol ∷ kept_b)
    → IsSound (acts_symbol a symbol).port b (kept_a ++ reply_sent (acts_symbol a symbol).reply)
    kept_b
symbol_acted a b kept_a kept_b symbol covers s =
    let what = symbol_arrival symbol.s1 symbol.cmd in
    let out_half = out.hears (stype0 symbol.s0) (hears_report symbol a.output) symbol.p0 in
    record {
      a_to_b =
          replied_ahead what a.input out_half.state b.input _ kept_a (map backward kept_b)
          (symbol_heard symbol a.output b.input a.queued (map forward kept_a)
          (map backward kept_b) covers s.a_to_b);
      b_to_a =
          replied_back b.output (receives what a.input).state b.queued (map forward kept_b) kept_a
          (receives what a.input).reply
          (symbol_keeps symbol.s1 symbol.cmd b.output a.input b.queued (map forward kept_b)
          (map backward kept_a) s.b_to_a);
    }

pub is_expected : (input : Input) (ack : ℕ) → expects input ack ≡ true → input ≡ InputOk ack
is_expected (InputOk expected) ack same = ap InputOk (sym (eqb-true ack expected same))
is_expected _ ack same = absurd cc

expected_there :
    (input : Input) (room : Bool) (buffers ack : ℕ) (packet : List ℕ) (output : out.Output)
    (queued : List (List (List ℕ))) (kept_ahead : List Forward) (kept_back : List Backward)
    → input ≡ InputOk ack
    → IsBetween output input queued (ForwardPacket ack packet ∷ kept_ahead) kept_back
    → IsBetween output (receives (packet_arrival (expected_of input) ack room buffers) input).state
    queued
    kept_ahead
    (kept_back
    ++ reply_backward (receives (packet_arrival (expected_of input) ack room buffers) input).reply)
expected_there input room buffers ack packet output queued kept_ahead kept_back same b =
    subst (λ (i : Input). IsBetween output
    (receives (packet_arrival (expected_of i) ack room buffers) i).state queued kept_ahead
    (kept_back ++ reply_backward (receives (packet_arrival (expected_of i) ack room buffers)
    i).reply))
    (sym same)
    (expected_keeps room buffers ack packet output queued kept_ahead kept_back (subst
    (λ (i : Input). IsBetween output i queued (ForwardPacket ack packet ∷ kept_ahead) kept_back)
    same b))

-- a packet that the far port sent
packet_acted :
    (a b : PortState) (kept_a kept_b : List Event) (ack : ℕ) (packet : List ℕ)
    → expects a.input ack ≡ true → IsSound a b kept_a (Pkt ack packet ∷ kept_b)
    → IsSound (acts_packet a ack packet).port b
    (kept_a ++ reply_sent (acts_packet a ack packet).reply) kept_b
packet_acted a b kept_a kept_b ack packet same s =
    let room = room_for a.received (prio_of packet) in
    let buffers = buffer_status a.tells (stored room a.received packet) in
    let what = packet_arrival (expected_of a.input) ack room buffers in
    record {
      a_to_b =
          replied_ahead what a.input a.output b.input a.queued kept_a (map backward kept_b)
          (one_lost a.output b.input a.queued (map forward kept_a) Neutral (map backward kept_b)
          s.a_to_b);
      b_to_a =
          replied_back b.output (receives what a.input).state b.queued (map forward kept_b) kept_a
          (receives what a.input).reply
          (expected_there a.input room buffers ack packet b.output b.queued (map forward kept_b)
          (map backward kept_a) (is_expected a.input ack same) s.b_to_a);
    }

pub acted_keeps :
    (a b : PortState) (kept_a kept_b : List Event) (e : Event) → Covers (prios_of a.output) a.queued
    → is_acted a e ≡ true → IsSound a b kept_a (e ∷ kept_b)
    → IsSound (acts a e).port b (kept_a ++ reply_sent (acts a e).reply) kept_b
acted_keeps a b kept_a kept_b (Ctl symbol) covers acted s =
    symbol_acted a b kept_a kept_b symbol covers s
acted_keeps a b kept_a kept_b (Pkt ack packet) covers acted s =
    packet_acted a b kept_a kept_b ack packet acted s
acted_keeps a b kept_a kept_b (Bad cause) covers acted s = absurd cc

-- what is not acted on: a packet that is not expected, or what is no packet or symbol
pub other_keeps :
    (a b : PortState) (kept_a kept_b : List Event) (e : Event) → is_acted a e ≡ false
    → IsSound a b kept_a kept_b
    → IsSound (acts a e).port b (kept_a ++ reply_sent (acts a e).reply) kept_b
other_keeps a b kept_a kept_b (Ctl symbol) other s = absurd cc
other_keeps a b kept_a kept_b (Pkt ack packet) other s =
    let room = room_for a.received (prio_of packet) in
    let buffers = buffer_status a.tells (stored room a.received packet) in
    let what = packet_arrival (expected_of a.input) ack room buffers in
    record {
      a_to_b =
          replied_ahead what a.input a.output b.input a.queued kept_a (map backward kept_b)
          s.a_to_b;
      b_to_a =
          replied_back b.output (receives what a.input).state b.queued (map forward kept_b) kept_a
          (receives what a.input).reply
          (unexpected_keeps room buffers ack b.output a.input b.queued (map forward kept_b)
          (map backward kept_a) other s.b_to_a);
    }
other_keeps a b kept_a kept_b (Bad cause) other s =
    let what = Damaged (number_of cause) in
    record {
      a_to_b =
          replied_ahead what a.input a.output b.input a.queued kept_a (map backward kept_b)
          s.a_to_b;
      b_to_a =
          replied_back b.output (receives what a.input).state b.queued (map forward kept_b) kept_a
          (receives what a.input).reply
          (damaged_keeps (number_of cause) b.output a.input b.queued (map forward kept_b)
          (map backward kept_a) s.b_to_a);
    }

front_lost :
    (output : out.Output) (input : Input) (queued : List (List (List ℕ)))
    (lost kept_ahead gone kept_back : List Event)
    → IsBetween output input queued (map forward (lost ++ kept_ahead))
    (map backward (gone ++ kept_back))
    → IsBetween output input queued (map forward kept_ahead) (map backward kept_back)
front_lost output input queued lost kept_ahead gone kept_back b = record {
  sent = b.sent;
  freed = b.freed;
  held = b.held;
  oldest = b.oldest;
  expected = b.expected;
  outstanding = b.outstanding;
  is =
      lost_front (sender_of output) (receiver_of input) b.freed b.held b.sent (map forward lost)
      (map forward kept_ahead) (map backward gone) (map backward kept_back)
      (subst (λ (bs : List Backward). IsDirection (sender_of output) (receiver_of input) b.freed
      b.held b.sent (map forward lost ++ map forward kept_ahead) bs)
      (map-append backward gone kept_back)
      (subst (λ (fs : List Forward). IsDirection (sender_of output) (receiver_of input) b.freed
      b.held b.sent fs (map backward (gone ++ kept_back))) (map-append forward lost kept_ahead)
      b.is));
}

-- any front of what is on its way may be lost
pub lost_keeps :
    (a b : PortState) (lost_a kept_a lost_b kept_b : List Event)
    → IsSound a b (lost_a ++ kept_a) (lost_b ++ kept_b) → IsSound a b kept_a kept_b
lost_keeps a b lost_a kept_a lost_b kept_b s = record {
  a_to_b = front_lost a.output b.input a.queued lost_a kept_a lost_b kept_b s.a_to_b;
  b_to_a = front_lost b.output a.input b.queued lost_b kept_b lost_a kept_a s.b_to_a;
}

own_time_out :
    (output : out.Output) (input : Input) (queued : List (List (List ℕ)))
    (kept_ahead : List Forward) (kept_back : List Backward)
    → IsBetween output input queued kept_ahead kept_back
    → IsBetween (times_out output) input queued [] []
own_time_out out.Output.Failed input queued kept_ahead kept_back b = absurd b.is.sender
own_time_out (out.Output.ErrorStopped false w) input queued kept_ahead kept_back b = record {
  sent = b.sent;
  freed = b.freed;
  held = b.held;
  oldest = b.oldest;
  expected = b.expected;
  outstanding = b.outstanding;
  is = time_is_out _ (receiver_of input) b.freed b.held b.sent kept_ahead kept_back b.is;
}
own_time_out _ input queued kept_ahead kept_back b = record {
  sent = b.sent;
  freed = b.freed;
  held = b.held;
  oldest = b.oldest;
  expected = b.expected;
  outstanding = b.outstanding;
  is = time_is_out _ (receiver_of input) b.freed b.held b.sent kept_ahead kept_back b.is;
}

other_time_out :
    (output : out.Output) (input : Input) (queued : List (List (List ℕ)))
    (kept_ahead : List Forward) (kept_back : List Backward)
    → IsBetween output input queued kept_ahead kept_back → IsBetween output input queued [] []
other_time_out output input queued kept_ahead kept_back b = record {
  sent = b.sent;
  freed = b.freed;
  held = b.held;
  oldest = b.oldest;
  expected = b.expected;
  outstanding = b.outstanding;
  is =
      emptied (sender_of output) (receiver_of input) b.freed b.held b.sent kept_ahead kept_back
      b.is;
}

-- a time-out, after which nothing is on its way
pub time_out_keeps : (a b : PortState) (kept_a kept_b : List Event) → IsSound a b kept_a kept_b
    → IsSound (turn.timed_out a) b [] []
time_out_keeps a b kept_a kept_b s = record {
  a_to_b =
      own_time_out a.output b.input a.queued (map forward kept_a) (map backward kept_b) s.a_to_b;
  b_to_a =
      other_time_out b.output a.input b.queued (map forward kept_b) (map backward kept_a) s.b_to_a;
}

-- two new ports, and nothing on its way
pub begins : (output : out.Output) (input : Input) (queued : List (List (List ℕ)))
    → output ≡ out.Output.Ok (from_ack 0 None) → input ≡ InputOk 0
    → IsBetween output input queued [] []
begins output input queued first second = rw (first, second) (record {
  sent = [];
  freed = 0;
  held = 0;
  oldest = refl;
  expected = refl;
  outstanding = refl;
  is = record {
    held_first = omega arith;
    sent_first = omega arith;
    few = omega arith;
    accepts = tt;
    sender = (tt, tt, tt, inl tt);
    receiver = (tt, tt);
  };
})

-- a packet to be sent is put to the others
put_between :
    (output : out.Output) (input : Input) (queued : List (List (List ℕ))) (prio : ℕ)
    (packet : List ℕ) (kept_ahead : List Forward) (kept_back : List Backward)
    → Covers (prios_of output) queued → prio < length queued
    → IsBetween output input queued kept_ahead kept_back
    → IsBetween output input (appended queued prio packet) kept_ahead kept_back
put_between output input queued prio packet kept_ahead kept_back covers few b = record {
  sent = b.sent;
  freed = b.freed;
  held = b.held;
  oldest = b.oldest;
  expected = b.expected;
  outstanding = packets_of-appended (prios_of output) queued prio packet covers few ∙ b.outstanding;
  is = b.is;
}

pub put_keeps :
    (a b : PortState) (kept_a kept_b : List Event) (prio : ℕ) (packet : List ℕ)
    → Covers (prios_of a.output) a.queued → prio < length a.queued → IsSound a b kept_a kept_b
    → IsSound (record a { queued = appended a.queued prio packet }) b kept_a kept_b
put_keeps a b kept_a kept_b prio packet covers few s = record {
  a_to_b =
      put_between a.output b.input a.queued prio packet (map forward kept_a) (map backward kept_b)
      covers few s.a_to_b;
  b_to_a = s.b_to_a;
}

-- what is received, and what the framer has read, is not spoken of
pub other_parts : (a b : PortState) (kept_a kept_b : List Event) (received : Buffered)
    (place : Place) → IsSound a b kept_a kept_b
    → IsSound (record a { received = received; place = place }) b kept_a kept_b
other_parts a b kept_a kept_b received place s = record { a_to_b = s.a_to_b; b_to_a = s.b_to_a }
