-- The packets that a delivery holds come with the ackIDs that the port expects.
use Rattle.fabric_trace.proofs.Prelude.{◌≡◌, ◌⊎◌, inl, inr, ℕ, suc, ◌+◌, ◌%◌, ◌==◌, ◌&&◌, ◌++◌, Bool, true, false, List, [], ◌∷◌, length, map, Option, Some, None, option_to_list, refl, sym, ap, ◌∙◌, subst, arith, length-append, if◌then◌else◌, eqb_tells, append-nil, Char, prio_of, room_for, stored, Event, Ctl, Pkt, Bad, said, PortState, expected_of, acts, Queues, Flow, Delivered, moves_of, done, IsSubsequence, EndsWithin, TakesWithin, SkipsWithin, Move, Held, Freed, PortRef, Seen, taken_from, numbered_packets, IsLink}
use Rattle.rio_packets.specs.CauseNumbers.{number_of}
use Rattle.link_model.specs.Input as in_half
use Rattle.link_model.specs.Input.{Arrival, receives, packet_arrival}
use Rattle.link_model.specs.Input.Arrival.{ExpectedWithRoom, ExpectedWithoutRoom, UnexpectedAck, Damaged, RestartFromRetry, LinkRequest, OtherStype1}
use Rattle.link_port.specs.Prelude.{buffer_status}
use Rattle.link_sound.proofs.Receiving.{next_expected}
use Rattle.fabric_trace.proofs.Links.EachEvent.{OfDelivery, IsStepwise, taken_keeps}

-- ---- subsequences and numbers

pub none_within : (ys : List Event) → IsSubsequence [] ys
none_within [] = EndsWithin
none_within (y ∷ ys) = SkipsWithin y (none_within ys)

pub within-append : {xs ys us vs : List Event} → IsSubsequence xs ys → IsSubsequence us vs
    → IsSubsequence (xs ++ us) (ys ++ vs)
within-append EndsWithin more = more
within-append (TakesWithin e rest) more = TakesWithin e (within-append rest more)
within-append (SkipsWithin y rest) more = SkipsWithin y (within-append rest more)

pub within_more : {xs ys : List Event} (more : List Event) → IsSubsequence xs ys
    → IsSubsequence xs (ys ++ more)
within_more {xs} {ys} more within =
    subst (λ (l : List Event). IsSubsequence l (ys ++ more)) (append-nil xs)
    (within-append within (none_within more))

pub numbered-append : (n m : ℕ) (ps qs : List (List ℕ)) → m ≡ n + length ps
    → numbered_packets n (ps ++ qs) ≡ numbered_packets n ps ++ numbered_packets m qs
numbered-append n m [] qs is =
    let same : n ≡ m = omega (arith, is) in ap (λ k. numbered_packets k qs) same
numbered-append n m (p ∷ ps) qs is =
    ap (λ (l : List Event). Pkt (n % 32) p ∷ l)
    (numbered-append (suc n) m ps qs (omega (arith, is)))

-- ---- the packets held

abbrev pub held_in : List Move → List (List ℕ)
held_in [] = []
held_in (Held packet ∷ moves) = packet ∷ held_in moves
held_in (Freed packet ∷ moves) = held_in moves

held-append : (xs ys : List Move) → held_in (xs ++ ys) ≡ held_in xs ++ held_in ys
held-append [] ys = refl
held-append (Held packet ∷ xs) ys = ap (λ (l : List (List ℕ)). packet ∷ l) (held-append xs ys)
held-append (Freed packet ∷ xs) ys = held-append xs ys

freed_none : (packets : List (List ℕ)) → held_in (map (λ packet. Freed packet) packets) ≡ []
freed_none [] = refl
freed_none (packet ∷ packets) = freed_none packets

held_of : (held : Option (List ℕ)) (freed : List (List ℕ))
    → held_in (map (λ packet. Held packet) (option_to_list held) ++ map (λ packet. Freed packet)
    freed) ≡ option_to_list held
held_of None freed = freed_none freed
held_of (Some packet) freed = ap (λ (l : List (List ℕ)). packet ∷ l) (freed_none freed)

-- ---- one event

-- an event that has a port hold nothing leaves the expected ackID; one that has it hold a packet is
-- that packet with it
abbrev IsHeld : PortState → Event → Type 0
IsHeld port e =
    (((acts port e).held ≡ None) × (expected_of (acts port e).port.input ≡ expected_of port.input))
    ⊎ ((packet : List ℕ) × ((acts port e).held ≡ Some packet)
    × (e ≡ Pkt (expected_of port.input) packet)
    × (expected_of (acts port e).port.input ≡ (expected_of port.input + 1) % 32))

-- of a state of a port's input
abbrev IsSame : Arrival → in_half.Input → Type 0
IsSame what input = expected_of (receives what input).state ≡ expected_of input

symbol_same : (first second : Bool) (input : in_half.Input)
    → IsSame (if first then RestartFromRetry else (if second then LinkRequest else OtherStype1))
    input
symbol_same true second (in_half.InputOk x) = refl
symbol_same true second (in_half.InputRetryStopped x) = refl
symbol_same true second (in_half.InputErrorStopped x) = refl
symbol_same false true (in_half.InputOk x) = refl
symbol_same false true (in_half.InputRetryStopped x) = refl
symbol_same false true (in_half.InputErrorStopped x) = refl
symbol_same false false (in_half.InputOk x) = refl
symbol_same false false (in_half.InputRetryStopped x) = refl
symbol_same false false (in_half.InputErrorStopped x) = refl

damaged_same : (cause : ℕ) (input : in_half.Input) → IsSame (Damaged cause) input
damaged_same cause (in_half.InputOk x) = refl
damaged_same cause (in_half.InputRetryStopped x) = refl
damaged_same cause (in_half.InputErrorStopped x) = refl

-- what a packet does, by whether it is expected and has room
abbrev Packet : Arrival → in_half.Input → ℕ → List ℕ → Type 0
Packet what input ack packet =
    (((if (receives what input).held then Some packet else None) ≡ None)
    × (expected_of (receives what input).state ≡ expected_of input))
    ⊎ ((p : List ℕ) × ((if (receives what input).held then Some packet else None) ≡ Some p)
    × (Pkt ack packet ≡ Pkt (expected_of input) p)
    × (expected_of (receives what input).state ≡ (expected_of input + 1) % 32))

unexpected : (room : Bool) (input : in_half.Input) (ack : ℕ) (packet : List ℕ)
    → Packet UnexpectedAck input ack packet
unexpected room (in_half.InputOk x) ack packet = inl (refl, refl)
unexpected room (in_half.InputRetryStopped x) ack packet = inl (refl, refl)
unexpected room (in_half.InputErrorStopped x) ack packet = inl (refl, refl)

-- an expected packet
abbrev wanted : Bool → ℕ → Arrival
wanted room buffers = if room then ExpectedWithRoom buffers else ExpectedWithoutRoom buffers

expected_comes : (room : Bool) (buffers : ℕ) (input : in_half.Input) (ack : ℕ) (packet : List ℕ)
    → ack ≡ expected_of input → Packet (wanted room buffers) input ack packet
expected_comes true buffers (in_half.InputOk x) ack packet is =
    inr (packet, refl, ap (λ n. Pkt n packet) is, refl)
expected_comes true buffers (in_half.InputRetryStopped x) ack packet is = inl (refl, refl)
expected_comes true buffers (in_half.InputErrorStopped x) ack packet is = inl (refl, refl)
expected_comes false buffers (in_half.InputOk x) ack packet is = inl (refl, refl)
expected_comes false buffers (in_half.InputRetryStopped x) ack packet is = inl (refl, refl)
expected_comes false buffers (in_half.InputErrorStopped x) ack packet is = inl (refl, refl)

packet_comes : (room : Bool) (buffers : ℕ) (input : in_half.Input) (ack : ℕ) (packet : List ℕ)
    → Packet (packet_arrival (expected_of input) ack room buffers) input ack packet
packet_comes room buffers input ack packet =
    elim (eqb_tells ack (expected_of input)) [
      | inl (test, same) ↦
          subst (λ b. Packet (if b then wanted room buffers else UnexpectedAck) input ack packet)
          (sym test) (expected_comes room buffers input ack packet same)
      | inr (test, different) ↦
          subst (λ b. Packet (if b then wanted room buffers else UnexpectedAck) input ack packet)
          (sym test) (unexpected room input ack packet)
    ]

event_held : (port : PortState) (e : Event) → IsHeld port e
event_held port (Ctl symbol) =
    inl (refl, symbol_same (symbol.s1 == 3) ((symbol.s1 == 4) && (symbol.cmd == 4)) port.input)
event_held port (Pkt ack packet) =
    let room = room_for port.received (prio_of packet) in
    packet_comes room (buffer_status port.tells (stored room port.received packet)) port.input ack
    packet
event_held port (Bad cause) = inl (refl, damaged_same (number_of cause) port.input)

-- ---- a flow

-- after these events: the packets held, numbered from n on, are among them, and the next number is
-- expected
pub record HasCome (n : ℕ) (events : List Event) (flow : Flow) : Type 0 where
  pub expected : expected_of flow.port.input ≡ (n + length (held_in flow.told.moves)) % 32
  pub within : IsSubsequence (numbered_packets n (held_in flow.told.moves)) events

abbrev pub AreWithin : ℕ → List Event → List Move → Type 0
AreWithin n events moves = IsSubsequence (numbered_packets n (held_in moves)) events

abbrev pub HaveCome : ℕ → List Event → Delivered → Type 0
HaveCome n events d = OfDelivery (HasCome n) (AreWithin n) events d

done_held : (e : Event) (acted kept : List Event) (flow : Flow)
    → held_in (done e acted kept flow).told.moves ≡ held_in flow.told.moves
    ++ option_to_list (acts flow.port e).held
done_held e acted kept flow =
    held-append flow.told.moves (moves_of (acts flow.port e))
    ∙ ap (λ (l : List (List ℕ)). held_in flow.told.moves ++ l)
    (held_of (acts flow.port e).held (acts flow.port e).freed)

done_comes : (n : ℕ) (events : List Event) (e : Event) (acted kept : List Event) (flow : Flow)
    → HasCome n events flow → HasCome n (events ++ e ∷ []) (done e acted kept flow)
done_comes n events e acted kept flow h = by_held (event_held flow.port e)
  where
    by_held : IsHeld flow.port e → HasCome n (events ++ e ∷ []) (done e acted kept flow)
    by_held (inl (none, same)) =
        let held : held_in (done e acted kept flow).told.moves ≡ held_in flow.told.moves =
        done_held e acted kept flow
        ∙ ap (λ (o : Option (List ℕ)). held_in flow.told.moves ++ option_to_list o) none
        ∙ append-nil (held_in flow.told.moves) in
        record {
          expected = same ∙ h.expected ∙ ap (λ (l : List (List ℕ)). (n + length l) % 32) (sym held);
          within = subst
              (λ (l : List (List ℕ)). IsSubsequence (numbered_packets n l) (events ++ e ∷ []))
              (sym held) (within_more (e ∷ []) h.within);
        }
    by_held (inr (packet, some, is, next)) =
        let ps = held_in flow.told.moves in
        let held : held_in (done e acted kept flow).told.moves ≡ ps ++ packet ∷ [] =
        done_held e acted kept flow ∙ ap (λ (o : Option (List ℕ)). ps ++ option_to_list o) some in
        let longer = length-append ps (packet ∷ []) in
        let count : suc (n + length ps) ≡ n + length (ps ++ packet ∷ []) = omega (arith, longer) in
        let number : (expected_of flow.port.input + 1) % 32
        ≡ (n + length (ps ++ packet ∷ [])) % 32 =
        next_expected (expected_of flow.port.input) (n + length ps) h.expected
        ∙ ap (λ k. k % 32) count in
        let last : Pkt ((n + length ps) % 32) packet ≡ e =
        ap (λ k. Pkt k packet) (sym h.expected) ∙ sym is in
        record {
          expected = next ∙ number ∙ ap (λ (l : List (List ℕ)). (n + length l) % 32) (sym held);
          within = subst
              (λ (l : List (List ℕ)). IsSubsequence (numbered_packets n l) (events ++ e ∷ []))
              (sym held)
              (subst (λ (l : List Event). IsSubsequence l (events ++ e ∷ []))
              (sym (numbered-append n (n + length ps) ps (packet ∷ []) refl))
              (within-append h.within (subst (λ (x : Event). IsSubsequence (x ∷ []) (e ∷ []))
              (sym last) (TakesWithin e EndsWithin))));
        }

comes_stepwise : (n : ℕ) (b : PortState) (kept_a : List Event) (begin : Queues)
    → IsStepwise b kept_a begin (HasCome n) (AreWithin n)
comes_stepwise n b kept_a begin = record {
  one = λ events e acted kept flow before next h. done_comes n events e acted kept flow h;
  undetected = λ events flow h. h.within;
  more = λ events rest moves h. within_more rest h;
  ends = λ events flow place count h. record { expected = h.expected; within = h.within };
}

-- a delivery to a port that expects the n-th packet
pub delivered_comes : (s : Seen) (p q : PortRef) (chars : List Char) (n : ℕ) → IsLink s p q
    → expected_of (s.halves q).input ≡ n % 32
    → HaveCome n (said (s.halves q).place chars) (taken_from s p q chars)
delivered_comes s p q chars n link is =
    let none : n % 32 ≡ (n + length {A = List ℕ} []) % 32 =
    (let same : n ≡ n + 0 = omega arith in ap (λ k. k % 32) same) in
    taken_keeps s p q chars (comes_stepwise n _ _ _) link (record {
      expected = is ∙ none;
      within = EndsWithin;
    })
