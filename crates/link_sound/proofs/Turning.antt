-- What a turn does to the two directions of a link.
use Rattle.link_sound.proofs.Prelude.{◌≡◌, ℕ, zero, suc, ◌+◌, Bool, true, false, if◌then◌else◌, ◌%◌, ◌<◌, ◌≤◌, List, [], ◌∷◌, ◌++◌, length, take, drop, map, Option, Some, None, slice_get, inl, inr, refl, sym, ap, ◌∙◌, subst, arith, length-drop, append_assoc, cases_lt, append-nil, drop-append-le, list_at, packets_of, lists_without, highest, Covers, slice_get-lists_without, length-packets_of, packets_of-next, highest_below-some, Input, Output, Sends, turns, Outstanding, window, status, started, startable, credited, unstarted, next_ack, with_next, startable-full, startable-open, Forward, Backward, ForwardPacket, Other, Neutral, SenderOk, Receiver, IsDirection, credited_some, PortState, standing, prios_of, burst_of, packet_burst, symbol_burst, no_burst, forward, backward, sender_of, receiver_of, IsBetween}
use Rattle.link_sound.proofs.MoveLaws.{other_sent, neutral_sent}
use Rattle.link_sound.proofs.TurnMoves.{packet_started, restarted, requested}

-- the number of a next packet is that of those sent
number_of_next : (oldest count freed total : ℕ) → oldest ≡ freed % 32 → total ≡ freed + count
    → (oldest + count) % 32 ≡ total % 32
number_of_next oldest count freed total is all = omega arith

-- how many are outstanding
pub count_is :
    (prios : List ℕ) (queued : List (List (List ℕ))) (freed : ℕ) (sent : List (List ℕ))
    → Covers prios queued → freed ≤ length sent
    → packets_of prios queued ≡ drop freed sent → length sent ≡ freed + length prios
count_is prios queued freed sent covers below same =
    let long = length-packets_of prios queued covers in
    let rest = length-drop freed sent in
    let eq = ap length same in
    omega arith

-- of the three events of a start one means something
start_sent :
    (r : Receiver) (freed held : ℕ) (sent : List (List ℕ)) (packet : List ℕ)
    (kept_ahead : List Forward) (kept_back : List Backward)
    → length sent < freed + window → IsDirection SenderOk r freed held sent kept_ahead kept_back
    → IsDirection SenderOk r freed held (sent ++ packet ∷ [])
    (kept_ahead ++ Other ∷ ForwardPacket (length sent % 32) packet ∷ Other ∷ []) kept_back
start_sent r freed held sent packet kept_ahead kept_back room d =
    let first = kept_ahead ++ Other ∷ [] in
    let second = first ++ ForwardPacket (length sent % 32) packet ∷ [] in
    subst
    (λ (fs : List Forward). IsDirection SenderOk r freed held (sent ++ packet ∷ []) fs kept_back)
    (append_assoc first (ForwardPacket (length sent % 32) packet ∷ []) (Other ∷ [])
    ∙ append_assoc kept_ahead (Other ∷ []) (ForwardPacket (length sent % 32) packet ∷ Other ∷ []))
    (other_sent SenderOk r freed held (sent ++ packet ∷ []) second kept_back
    (packet_started r freed held sent packet first kept_back room
    (other_sent SenderOk r freed held sent kept_ahead kept_back d)))

-- the first of the packets of a list that is not empty
pub first_there : (packets : List (List ℕ)) → 0 < length packets
    → (packet : List ℕ) × (slice_get packets 0 ≡ Some packet)
first_there [] some = absurd (omega arith)
first_there (packet ∷ packets) some = (packet, refl)

-- something that means nothing for the direction goes ahead
pub other_ahead :
    (output : Output) (input : Input) (queued : List (List (List ℕ))) (kept_ahead : List Forward)
    (kept_back : List Backward)
    → IsBetween output input queued kept_ahead kept_back
    → IsBetween output input queued (kept_ahead ++ Other ∷ []) kept_back
other_ahead output input queued kept_ahead kept_back b = record {
  sent = b.sent;
  freed = b.freed;
  held = b.held;
  oldest = b.oldest;
  expected = b.expected;
  outstanding = b.outstanding;
  is =
      other_sent (sender_of output) (receiver_of input) b.freed b.held b.sent kept_ahead kept_back
      b.is;
}

-- a status of a port that tells its free buffers
pub tell_ahead :
    (tells : Bool) (p : PortState) (output : Output) (input : Input)
    (queued : List (List (List ℕ))) (kept_ahead : List Forward) (kept_back : List Backward)
    → IsBetween output input queued kept_ahead kept_back
    → IsBetween output input queued (kept_ahead ++ map forward
    (if tells then symbol_burst (status (standing p).expected (standing p).buffers)
    else no_burst).sent) kept_back
tell_ahead true p output input queued kept_ahead kept_back b =
    other_ahead output input queued kept_ahead kept_back b
tell_ahead false p output input queued kept_ahead kept_back b = rw append-nil b

-- no packet starts
unstarted_is :
    (tells : Bool) (w : Outstanding) (input : Input) (queued waiting : List (List (List ℕ)))
    (p : PortState) (kept_ahead : List Forward) (kept_back : List Backward)
    → IsBetween (Output.Ok w) input queued kept_ahead kept_back
    → IsBetween (Output.Ok w) input queued
    (kept_ahead ++ map forward (burst_of (unstarted tells) (standing p) waiting).sent) kept_back
unstarted_is true w input queued waiting p kept_ahead kept_back b =
    other_ahead (Output.Ok w) input queued kept_ahead kept_back b
unstarted_is false w input queued waiting p kept_ahead kept_back b = rw append-nil b

-- what there is credit for is what waits
-- a packet starts
turn_started :
    (w : Outstanding) (input : Input) (queued : List (List (List ℕ))) (p : PortState)
    (kept_ahead : List Forward) (kept_back : List Backward) (prio : ℕ) → Covers w.prios queued
    → length w.prios < window → highest (lists_without w.prios queued) ≡ Some prio
    → IsBetween (Output.Ok w) input queued kept_ahead kept_back
    → IsBetween (Output.Ok (with_next w prio)) input queued (kept_ahead
    ++ map forward (packet_burst (standing p) (next_ack w)
    (slice_get (list_at (lists_without w.prios queued) prio) 0)).sent) kept_back
turn_started w input queued p kept_ahead kept_back prio covers room waits b =
    let there =
    first_there (list_at (lists_without w.prios queued) prio)
    (highest_below-some 4 prio (lists_without w.prios queued) waits).1 in
    let below : b.freed ≤ length b.sent = omega (arith, b.is.held_first, b.is.sent_first) in
    let total = count_is w.prios queued b.freed b.sent covers below b.outstanding in
    let number : next_ack w ≡ length b.sent % 32 =
    number_of_next w.oldest (length w.prios) b.freed (length b.sent) b.oldest total in
    let next =
    packets_of-next w.prios prio queued there.0
    (sym (slice_get-lists_without w.prios queued prio) ∙ there.1) in
    rw there.1 (record {
      sent = b.sent ++ there.0 ∷ [];
      freed = b.freed;
      held = b.held;
      oldest = b.oldest;
      expected = b.expected;
      outstanding =
          next
          ∙ ap (λ xs. xs ++ there.0 ∷ []) b.outstanding
          ∙ sym (drop-append-le b.freed b.sent (there.0 ∷ []) below);
      is =
          subst (λ (ack : ℕ). IsDirection SenderOk (receiver_of input) b.freed b.held
          (b.sent ++ there.0 ∷ []) (kept_ahead ++ Other ∷ ForwardPacket ack there.0 ∷ Other ∷ [])
          kept_back)
          (sym number)
          (start_sent (receiver_of input) b.freed b.held b.sent there.0 kept_ahead kept_back
          (omega arith) b.is);
    })

started_is :
    (tells : Bool) (w : Outstanding) (input : Input) (queued : List (List (List ℕ))) (p : PortState)
    (kept_ahead : List Forward) (kept_back : List Backward) (starts : Option ℕ)
    → Covers w.prios queued → length w.prios < window
    → ((prio : ℕ) → starts ≡ Some prio → highest (lists_without w.prios queued) ≡ Some prio)
    → IsBetween (Output.Ok w) input queued kept_ahead kept_back
    → IsBetween (started tells w starts).state input queued (kept_ahead
    ++ map forward
    (burst_of (started tells w starts).sends (standing p) (lists_without w.prios queued)).sent)
    kept_back
started_is tells w input queued p kept_ahead kept_back None covers room waits b =
    unstarted_is tells w input queued (lists_without w.prios queued) p kept_ahead kept_back b
started_is tells w input queued p kept_ahead kept_back (Some prio) covers room waits b =
    turn_started w input queued p kept_ahead kept_back prio covers room (waits prio refl) b

ok_is :
    (tells : Bool) (w : Outstanding) (input : Input) (queued : List (List (List ℕ))) (p : PortState)
    (kept_ahead : List Forward) (kept_back : List Backward) (waiting : Option ℕ)
    → Covers w.prios queued
    → highest (lists_without w.prios queued) ≡ waiting
    → IsBetween (Output.Ok w) input queued kept_ahead kept_back
    → IsBetween (started tells w (startable w waiting)).state input queued (kept_ahead
    ++ map forward (burst_of (started tells w (startable w waiting)).sends (standing p)
    (lists_without w.prios queued)).sent) kept_back
ok_is tells w input queued p kept_ahead kept_back waiting covers waits b =
    elim (cases_lt (length w.prios) window) [
      | inl few ↦ rw (startable-open w waiting few)
          (started_is tells w input queued p kept_ahead kept_back (credited w waiting) covers few
          (λ prio is. waits ∙ credited_some w waiting prio is) b)
      | inr full ↦ rw (startable-full w waiting full)
          (unstarted_is tells w input queued (lists_without w.prios queued) p kept_ahead kept_back
          b)
    ]

pub drop_taken : (count : ℕ) (packets : List (List ℕ)) → drop count (take count packets) ≡ []
drop_taken zero packets = refl
drop_taken (suc count) [] = refl
drop_taken (suc count) (packet ∷ packets) = drop_taken count packets

-- the direction of the port that takes its turn
pub own_turn :
    (tells : Bool) (output : Output) (input : Input) (queued : List (List (List ℕ)))
    (p : PortState)
    (kept_ahead : List Forward) (kept_back : List Backward) → Covers (prios_of output) queued
    → IsBetween output input queued kept_ahead kept_back
    → IsBetween (turns tells output (highest (lists_without (prios_of output) queued))).state input
    queued
    (kept_ahead ++ map forward (burst_of
    (turns tells output (highest (lists_without (prios_of output) queued))).sends (standing p)
    (lists_without (prios_of output) queued)).sent) kept_back
own_turn tells (Output.Ok w) input queued p kept_ahead kept_back covers b =
    ok_is tells w input queued p kept_ahead kept_back (highest (lists_without w.prios queued))
    covers refl b
own_turn tells (Output.RetryStopped w) input queued p kept_ahead kept_back covers b = record {
  sent = take b.freed b.sent;
  freed = b.freed;
  held = b.held;
  oldest = b.oldest;
  expected = b.expected;
  outstanding = sym (drop_taken b.freed b.sent);
  is = restarted (receiver_of input) b.freed b.held b.sent kept_ahead kept_back b.is;
}
own_turn tells (Output.ErrorStopped false w) input queued p kept_ahead kept_back covers b =
    record {
      sent = b.sent;
      freed = b.freed;
      held = b.held;
      oldest = b.oldest;
      expected = b.expected;
      outstanding = b.outstanding;
      is = requested (receiver_of input) b.freed b.held b.sent kept_ahead kept_back b.is;
    }
own_turn tells _ input queued p kept_ahead kept_back covers b = rw append-nil b

-- something that means nothing for the direction comes on the way back
pub neutral_back :
    (output : Output) (input : Input) (queued : List (List (List ℕ))) (kept_ahead : List Forward)
    (kept_back : List Backward)
    → IsBetween output input queued kept_ahead kept_back
    → IsBetween output input queued kept_ahead (kept_back ++ Neutral ∷ [])
neutral_back output input queued kept_ahead kept_back b = record {
  sent = b.sent;
  freed = b.freed;
  held = b.held;
  oldest = b.oldest;
  expected = b.expected;
  outstanding = b.outstanding;
  is =
      neutral_sent (sender_of output) (receiver_of input) b.freed b.held b.sent kept_ahead kept_back
      b.is;
}

packet_back :
    (output : Output) (input : Input) (queued : List (List (List ℕ))) (p : PortState) (ack : ℕ)
    (packet : Option (List ℕ)) (kept_ahead : List Forward) (kept_back : List Backward)
    → IsBetween output input queued kept_ahead kept_back
    → IsBetween output input queued kept_ahead
    (kept_back ++ map backward (packet_burst (standing p) ack packet).sent)
packet_back output input queued p ack None kept_ahead kept_back b = rw append-nil b
packet_back output input queued p ack (Some packet) kept_ahead kept_back b =
    let one = kept_back ++ Neutral ∷ [] in
    let two = one ++ Neutral ∷ [] in
    subst (λ (bs : List Backward). IsBetween output input queued kept_ahead bs) (append_assoc one
    (Neutral ∷ []) (Neutral ∷ []) ∙ append_assoc kept_back (Neutral ∷ []) (Neutral ∷ Neutral ∷ []))
    (neutral_back output input queued kept_ahead two (neutral_back output input queued kept_ahead
    one (neutral_back output input queued kept_ahead kept_back b)))

-- the other direction, whose receiver's port takes its turn
pub other_turn :
    (output : Output) (input : Input) (queued : List (List (List ℕ))) (sends : Sends)
    (p : PortState)
    (waiting : List (List (List ℕ))) (kept_ahead : List Forward) (kept_back : List Backward)
    → IsBetween output input queued kept_ahead kept_back
    → IsBetween output input queued kept_ahead
    (kept_back ++ map backward (burst_of sends (standing p) waiting).sent)
other_turn output input queued (Sends.Packet ack prio) p waiting kept_ahead kept_back b =
    packet_back output input queued p ack (slice_get (list_at waiting prio) 0) kept_ahead
    kept_back b
other_turn output input queued Sends.Nothing p waiting kept_ahead kept_back b = rw append-nil b
other_turn output input queued _ p waiting kept_ahead kept_back b =
    neutral_back output input queued kept_ahead kept_back b

-- it tells its free buffers
pub tell_back :
    (tells : Bool) (p : PortState) (output : Output) (input : Input)
    (queued : List (List (List ℕ))) (kept_ahead : List Forward) (kept_back : List Backward)
    → IsBetween output input queued kept_ahead kept_back
    → IsBetween output input queued kept_ahead (kept_back ++ map backward
    (if tells then symbol_burst (status (standing p).expected (standing p).buffers)
    else no_burst).sent)
tell_back true p output input queued kept_ahead kept_back b =
    neutral_back output input queued kept_ahead kept_back b
tell_back false p output input queued kept_ahead kept_back b = rw append-nil b
