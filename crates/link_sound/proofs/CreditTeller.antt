-- Each step of a port that tells its free buffers keeps what it told true, and the packets of one
-- that was told in time find room.
use Rattle.link_sound.proofs.Prelude.{◌≡◌, ℕ, ◌+◌, ◌%◌, ◌<◌, ◌≤◌, ◌==◌, ◌&&◌, Bool, true, false, Option, List, [], ◌∷◌, ◌++◌, map, length, sym, ap, ◌∙◌, subst, refl, if◌then◌else◌, arith, map-append, Fields, Buffered, room_for, stored, number_of, prio_of, distance, Input, Output, Place, receives, symbol_arrival, packet_arrival, Arrival, InputOk, ExpectedWithRoom, ExpectedWithoutRoom, UnexpectedAck, Damaged, RestartFromRetry, LinkRequest, OtherStype1, Report, port_turn, Forward, Backward, ForwardPacket, Lacks, asks, forward, backward, oldest_of, receiver_of, IsBetween, IsSound, reply_sent, last_report, Word, word, AreCounted, AreCountedAt, free_buffers}
use Rattle.link_port.specs.Prelude.{Event, Ctl, Pkt, Bad, PortState, IsPort, buffer_status, prios_of, expected_of, acts, is_acted, turns_to, turn_sends, tell_sends, timed_out, waiting_in}
use Rattle.link_sound.proofs.Steps.{is_expected}
use Rattle.link_sound.proofs.CreditLaws.{is_responded, WordsInTurn-more}
use Rattle.link_sound.proofs.CreditHears.{distance_counts}
use Rattle.link_sound.proofs.CreditFacts.{packet_within, packet_unanswered, request_alone}
use Rattle.link_sound.proofs.CreditTimely.{IsTimely, IsKnown, timely_lost, timely_more}
use Rattle.link_sound.proofs.CreditAnswers.{burst_counted, telling_counted, Answered, IsNoExpected, IsAlone, no_packet_answered}
use Rattle.link_sound.proofs.CreditHolds.{expected_answered, unexpected_answered, covered_more}
use Rattle.link_sound.proofs.CreditStays.{few_outstanding, none_responded}
use Rattle.link_sound.proofs.CreditHearer.{emptied_known}

-- the receiver and its store are the same
pub same_receiver :
    (timely : Bool) (b a : PortState) (output : Output) (queued : List (List (List ℕ)))
    (kept_b kept_a : List Event) → IsKnown timely b a kept_b kept_a
    → IsKnown timely b (record a { output = output; queued = queued }) kept_b kept_a
same_receiver timely b a output queued kept_b kept_a k = record {
  tells = k.tells;
  freed = k.freed;
  held = k.held;
  counted = k.counted;
  in_time = k.in_time;
}

sent_known :
    (timely : Bool) (b a : PortState) (kept_b kept_a more : List Event)
    (k : IsKnown timely b a kept_b kept_a)
    → AreCountedAt b.output a.input (free_buffers a.received + k.held) k.freed k.held
    (map word kept_a ++ map word more)
    → IsKnown timely b a kept_b (kept_a ++ more)
sent_known timely b a kept_b kept_a more k c = record {
  tells = k.tells;
  freed = k.freed;
  held = k.held;
  counted =
      subst (λ (ws : List Word). AreCountedAt b.output a.input (free_buffers a.received + k.held)
      k.freed k.held ws) (sym (map-append word kept_a more)) c;
  in_time = k.in_time;
}

-- a turn
pub turn_told : (timely : Bool) (b a : PortState) (kept_b kept_a : List Event) → IsPort a
    → IsKnown timely b a kept_b kept_a
    → IsKnown timely b (turns_to a) kept_b (kept_a ++ (turn_sends a).sent)
turn_told timely b a kept_b kept_a is k =
    same_receiver timely b a (port_turn a).state a.queued kept_b (kept_a ++ (turn_sends a).sent)
    (sent_known timely b a kept_b kept_a (turn_sends a).sent k
    (burst_counted a (port_turn a).sends (waiting_in a) (oldest_of b.output)
    (length (prios_of b.output)) (last_report b.output) k.freed k.held (map word kept_a) k.tells is
    k.counted))

-- it tells once more
pub tell_told : (timely : Bool) (b a : PortState) (kept_b kept_a : List Event) → IsPort a
    → IsKnown timely b a kept_b kept_a
    → IsKnown timely b a kept_b (kept_a ++ (tell_sends a).sent)
tell_told timely b a kept_b kept_a is k =
    sent_known timely b a kept_b kept_a (tell_sends a).sent k
    (telling_counted a a.tells (oldest_of b.output) (length (prios_of b.output))
    (last_report b.output) k.freed k.held (map word kept_a) k.tells is k.counted)

-- the layer above takes packets away
pub taken_told :
    (timely : Bool) (b a : PortState) (received : Buffered) (place : Place)
    (kept_b kept_a : List Event) → free_buffers a.received ≤ free_buffers received
    → IsKnown timely b a kept_b kept_a
    → IsKnown timely b (record a { received = received; place = place }) kept_b kept_a
taken_told timely b a received place kept_b kept_a grows k = record {
  tells = k.tells;
  freed = k.freed;
  held = k.held;
  counted = record {
    oldest_is = k.counted.oldest_is;
    expected_is = k.counted.expected_is;
    held_first = k.counted.held_first;
    sent_first = k.counted.sent_first;
    words_are =
        WordsInTurn-more k.freed k.held (free_buffers a.received + k.held)
        (free_buffers received + k.held) (map word kept_a) (omega arith) k.counted.words_are;
    report_is =
        covered_more k.held _ (free_buffers a.received + k.held) k.held
        (free_buffers received + k.held) (last_report b.output) (omega arith) (omega arith)
        k.counted.report_is;
  };
  in_time =
      timely_more timely _ _ (free_buffers a.received + k.held) (free_buffers received + k.held)
      k.held _ (map forward kept_b) (omega arith) k.in_time;
}

-- the port after an answer
answered_known :
    (timely : Bool) (b a : PortState) (next : PortState) (kept_b kept_a : List Event)
    (reply : Option Fields) (freed : ℕ) → next.tells ≡ true
    → Answered timely (oldest_of b.output) (length (prios_of b.output)) (last_report b.output) freed
    (map word kept_a) (map forward kept_b) next.input next.received reply
    → IsKnown timely b next kept_b (kept_a ++ reply_sent reply)
answered_known timely b a next kept_b kept_a reply freed tells (held, c, known) = record {
  tells = tells;
  freed = freed;
  held = held;
  counted =
      subst (λ (ws : List Word). AreCountedAt b.output next.input
      (free_buffers next.received + held) freed held ws)
      (sym (map-append word kept_a (reply_sent reply))) c;
  in_time = known;
}

arrives_alone :
    (what : Arrival) (output : Output) (input : Input) (queued : List (List (List ℕ)))
    (kept_ahead : List Forward) (kept_back : List Backward)
    → IsBetween output input queued (asks what ∷ kept_ahead) kept_back → IsAlone what kept_ahead
arrives_alone (ExpectedWithRoom buffers) output input queued kept_ahead kept_back b = tt
arrives_alone (ExpectedWithoutRoom buffers) output input queued kept_ahead kept_back b = tt
arrives_alone UnexpectedAck output input queued kept_ahead kept_back b = tt
arrives_alone (Damaged cause) output input queued kept_ahead kept_back b = tt
arrives_alone RestartFromRetry output input queued kept_ahead kept_back b = tt
arrives_alone LinkRequest output input queued kept_ahead kept_back b =
    request_alone output input queued kept_ahead kept_back b
arrives_alone OtherStype1 output input queued kept_ahead kept_back b = tt

two_arrivals : (first second : Bool) → IsNoExpected
    (if first then RestartFromRetry else (if second then LinkRequest else OtherStype1))
two_arrivals true second = tt
two_arrivals false true = tt
two_arrivals false false = tt

symbol_is_none : (s1 cmd : ℕ) → IsNoExpected (symbol_arrival s1 cmd)
symbol_is_none s1 cmd = two_arrivals (s1 == 3) ((s1 == 4) && (cmd == 4))

-- a symbol that the far port sent
symbol_told :
    (timely : Bool) (b a : PortState) (kept_b kept_a : List Event) (symbol : Fields)
    → IsSound a b kept_a (Ctl symbol ∷ kept_b) → IsKnown timely b a (Ctl symbol ∷ kept_b) kept_a
    → IsKnown timely b (acts a (Ctl symbol)).port kept_b
    (kept_a ++ reply_sent (acts a (Ctl symbol)).reply)
symbol_told timely b a kept_b kept_a symbol s k =
    answered_known timely b a (acts a (Ctl symbol)).port kept_b kept_a
    (acts a (Ctl symbol)).reply k.freed k.tells
    (no_packet_answered timely (symbol_arrival symbol.s1 symbol.cmd) a.input (oldest_of b.output)
    (length (prios_of b.output)) (last_report b.output) k.freed k.held (map word kept_a)
    (map forward kept_b) a.received (symbol_is_none symbol.s1 symbol.cmd)
    (arrives_alone (symbol_arrival symbol.s1 symbol.cmd) b.output a.input b.queued
    (map forward kept_b) (map backward kept_a) s.b_to_a) k.counted
    (timely_lost timely _ _ _ k.held _ (forward (Ctl symbol) ∷ []) (map forward kept_b) k.in_time))

-- where a packet comes that is expected, fewer are held than were sent
few_held : (oldest expected freed held count : ℕ) → oldest ≡ freed % 32 → expected ≡ held % 32
    → freed ≤ held → held ≤ freed + count → count ≤ 31 → distance oldest expected < count
    → held < freed + count
few_held oldest expected freed held count first second below within few far =
    let is = distance_counts oldest expected freed held first second below (omega arith) in
    omega arith

expected_at :
    (timely tells room : Bool) (input : Input) (store : Buffered) (ack : ℕ) (packet : List ℕ)
    (oldest count : ℕ) (report : Option Report) (freed held : ℕ) (words : List Word)
    (kept : List Forward) → input ≡ InputOk ack → room_for store (prio_of packet) ≡ room
    → tells ≡ true → store.buffers ≤ 30 → held < freed + count → Lacks is_responded words
    → AreCounted oldest count report (expected_of input) (free_buffers store + held) freed held
    words
    → IsTimely timely report (receiver_of input) (free_buffers store + held) held (freed + count)
    (ForwardPacket ack packet ∷ kept)
    → Answered timely oldest count report freed words kept
    (receives (packet_arrival (expected_of input) ack room
    (buffer_status tells (stored room store packet))) input).state
    (stored (receives (packet_arrival (expected_of input) ack room
    (buffer_status tells (stored room store packet))) input).held store packet)
    (receives (packet_arrival (expected_of input) ack room
    (buffer_status tells (stored room store packet))) input).reply
expected_at timely tells room input store ack packet oldest count report freed held words kept same
    is does few within none c known =
    subst (λ (i : Input). Answered timely oldest count report freed words kept
    (receives (packet_arrival (expected_of i) ack room
    (buffer_status tells (stored room store packet))) i).state
    (stored (receives (packet_arrival (expected_of i) ack room
    (buffer_status tells (stored room store packet))) i).held store packet)
    (receives (packet_arrival (expected_of i) ack room
    (buffer_status tells (stored room store packet))) i).reply)
    (sym same)
    (expected_answered timely tells room store ack packet oldest count report freed held words kept
    is does few within none
    (subst (λ (i : Input). AreCounted oldest count report (expected_of i)
    (free_buffers store + held) freed held words) same c)
    (subst (λ (i : Input). IsTimely timely report (receiver_of i) (free_buffers store + held) held
    (freed + count) (ForwardPacket ack packet ∷ kept)) same known))

-- a packet that the far port sent
packet_told :
    (timely : Bool) (b a : PortState) (kept_b kept_a : List Event) (ack : ℕ) (packet : List ℕ)
    → IsPort a → IsPort b → is_acted a (Pkt ack packet) ≡ true
    → IsSound a b kept_a (Pkt ack packet ∷ kept_b)
    → IsKnown timely b a (Pkt ack packet ∷ kept_b) kept_a
    → IsKnown timely b (acts a (Pkt ack packet)).port kept_b
    (kept_a ++ reply_sent (acts a (Pkt ack packet)).reply)
packet_told timely b a kept_b kept_a ack packet is far acted s k =
    let same = is_expected a.input ack acted in
    let count = length (prios_of b.output) in
    let between =
    subst (λ (i : Input).
    IsBetween b.output i b.queued (ForwardPacket ack packet ∷ map forward kept_b)
    (map backward kept_a)) same s.b_to_a in
    let away =
    packet_within b.output ack ack packet b.queued (map forward kept_b) (map backward kept_a)
    far.covered between in
    let number : ack ≡ k.held % 32 = sym (ap expected_of same) ∙ k.counted.expected_is in
    let within =
    few_held (oldest_of b.output) ack k.freed k.held count k.counted.oldest_is number
    k.counted.held_first k.counted.sent_first (few_outstanding b.output far.outstanding) away in
    answered_known timely b a (acts a (Pkt ack packet)).port kept_b kept_a
    (acts a (Pkt ack packet)).reply k.freed k.tells
    (expected_at timely a.tells (room_for a.received (prio_of packet)) a.input a.received ack
    packet (oldest_of b.output) count (last_report b.output) k.freed k.held (map word kept_a)
    (map forward kept_b) same refl k.tells is.receives.most within
    (none_responded kept_a (packet_unanswered b.output (InputOk ack) ack packet b.queued
    (map forward kept_b) (map backward kept_a) between)) k.counted k.in_time)

-- an event that the far port sent
pub acted_told :
    (timely : Bool) (b a : PortState) (kept_b kept_a : List Event) (e : Event) → IsPort a
    → IsPort b → is_acted a e ≡ true → IsSound a b kept_a (e ∷ kept_b)
    → IsKnown timely b a (e ∷ kept_b) kept_a
    → IsKnown timely b (acts a e).port kept_b (kept_a ++ reply_sent (acts a e).reply)
acted_told timely b a kept_b kept_a (Ctl symbol) is far acted s k =
    symbol_told timely b a kept_b kept_a symbol s k
acted_told timely b a kept_b kept_a (Pkt ack packet) is far acted s k =
    packet_told timely b a kept_b kept_a ack packet is far acted s k
acted_told timely b a kept_b kept_a (Bad cause) is far acted s k = absurd cc

-- what is not acted on
pub other_told :
    (timely : Bool) (b a : PortState) (kept_b kept_a : List Event) (e : Event)
    → is_acted a e ≡ false → IsKnown timely b a kept_b kept_a
    → IsKnown timely b (acts a e).port kept_b (kept_a ++ reply_sent (acts a e).reply)
other_told timely b a kept_b kept_a (Ctl symbol) other k = absurd cc
other_told timely b a kept_b kept_a (Pkt ack packet) other k =
    let room = room_for a.received (prio_of packet) in
    answered_known timely b a (acts a (Pkt ack packet)).port kept_b kept_a
    (acts a (Pkt ack packet)).reply k.freed k.tells
    (unexpected_answered timely room
    (buffer_status a.tells (stored room a.received packet)) a.input a.received ack packet
    (oldest_of b.output) (length (prios_of b.output)) (last_report b.output) k.freed k.held
    (map word kept_a) (map forward kept_b) other k.counted k.in_time)
other_told timely b a kept_b kept_a (Bad cause) other k =
    answered_known timely b a (acts a (Bad cause)).port kept_b kept_a (acts a (Bad cause)).reply
    k.freed k.tells
    (no_packet_answered timely (Damaged (number_of cause)) a.input (oldest_of b.output)
    (length (prios_of b.output)) (last_report b.output) k.freed k.held (map word kept_a)
    (map forward kept_b) a.received tt tt k.counted k.in_time)

-- a time-out
pub late_told : (timely : Bool) (b a : PortState) (kept_b kept_a : List Event)
    → IsKnown timely b a kept_b kept_a → IsKnown timely b (timed_out a) [] []
late_told timely b a kept_b kept_a k =
    same_receiver timely b a (timed_out a).output a.queued [] []
    (emptied_known timely b a kept_b kept_a k)
