-- What a port holds and frees when an event comes.
use Rattle.link_sound.proofs.Prelude.{◌≡◌, ℕ, ◌==◌, ◌&&◌, Bool, true, false, Some, None, List, ◌∷◌, refl, sym, ap, subst, if◌then◌else◌, eq-eqb, number_of, prio_of, Input, packet_arrival, symbol_arrival, receives, Damaged, Output, Buffered, room_for, stored, IsOutStore, Covers, Event, Ctl, Pkt, Bad, prios_of, expected_of, expects, PortState, acts, is_acted, ExpectedWithRoom, ExpectedWithoutRoom, UnexpectedAck, InputOk, InputRetryStopped, InputErrorStopped, Forward, Backward, ForwardPacket, IsShut, receiver_of, IsBetween, IsSound, lent_until, waiting_from, HoldsAt, Holds, Frees}
use Rattle.link_sound.proofs.Plain.{held_is}
use Rattle.link_sound.proofs.Freed.{symbol_frees}
use Rattle.link_sound.proofs.Receiving.{arrival}
use Rattle.link_sound.proofs.Steps.{is_expected}

-- where the expected ackID stays, nothing is held
nothing_held : (output : Output) (queued : List (List (List ℕ))) (store : Buffered)
    (expected next : ℕ) → next ≡ expected → HoldsAt output queued store store expected next None
nothing_held output queued store expected next same =
    (ap (λ e. lent_until output e queued) same, ap (λ e. waiting_from output e queued) same, refl)

obeyed_expects : (is_restart is_request : Bool) (input : Input)
    → expected_of (receives (arrival is_restart is_request) input).state ≡ expected_of input
obeyed_expects true is_request (InputOk expected) = refl
obeyed_expects true is_request (InputRetryStopped expected) = refl
obeyed_expects true is_request (InputErrorStopped expected) = refl
obeyed_expects false true (InputOk expected) = refl
obeyed_expects false true (InputRetryStopped expected) = refl
obeyed_expects false true (InputErrorStopped expected) = refl
obeyed_expects false false (InputOk expected) = refl
obeyed_expects false false (InputRetryStopped expected) = refl
obeyed_expects false false (InputErrorStopped expected) = refl

symbol_expects : (s1 cmd : ℕ) (input : Input)
    → expected_of (receives (symbol_arrival s1 cmd) input).state ≡ expected_of input
symbol_expects s1 cmd input = obeyed_expects (s1 == 3) ((s1 == 4) && (cmd == 4)) input

damaged_expects : (cause : ℕ) (input : Input)
    → expected_of (receives (Damaged cause) input).state ≡ expected_of input
damaged_expects cause (InputOk expected) = refl
damaged_expects cause (InputRetryStopped expected) = refl
damaged_expects cause (InputErrorStopped expected) = refl

-- what a packet of the expected ackID does
abbrev PacketHolds : Output → List (List (List ℕ)) → Buffered → Input → ℕ → List ℕ → Bool → ℕ
    → Type 0
PacketHolds output queued store input ack packet room buffers =
    HoldsAt output queued store
    (stored (receives (packet_arrival (expected_of input) ack room buffers) input).held store
    packet)
    (expected_of input)
    (expected_of (receives (packet_arrival (expected_of input) ack room buffers) input).state)
    (if (receives (packet_arrival (expected_of input) ack room buffers) input).held then Some packet
    else None)

expected_holds :
    (output : Output) (queued : List (List (List ℕ))) (store : Buffered) (ack : ℕ) (packet : List ℕ)
    (kept_ahead : List Forward) (kept_back : List Backward) (room : Bool) (buffers : ℕ)
    → room_for store (prio_of packet) ≡ room → Covers (prios_of output) queued → IsOutStore queued
    → IsBetween output (InputOk ack) queued (ForwardPacket ack packet ∷ kept_ahead) kept_back
    → PacketHolds output queued store (InputOk ack) ack packet room buffers
expected_holds output queued store ack packet kept_ahead kept_back true buffers room covers four b =
    let does = held_is output ack queued packet kept_ahead kept_back covers four b in
    rw (eq-eqb ack ack refl) (does.first, room, does.lent, does.waiting, refl)
expected_holds output queued store ack packet kept_ahead kept_back false buffers room covers four
    b =
    rw (eq-eqb ack ack refl) (nothing_held output queued store ack ack refl)

packet_holds :
    (output : Output) (queued : List (List (List ℕ))) (store : Buffered) (input : Input) (ack : ℕ)
    (packet : List ℕ) (kept_ahead : List Forward) (kept_back : List Backward) (buffers : ℕ)
    → input ≡ InputOk ack → Covers (prios_of output) queued → IsOutStore queued
    → IsBetween output input queued (ForwardPacket ack packet ∷ kept_ahead) kept_back
    → PacketHolds output queued store input ack packet (room_for store (prio_of packet)) buffers
packet_holds output queued store input ack packet kept_ahead kept_back buffers same covers four b =
    subst
    (λ (i : Input). PacketHolds output queued store i ack packet (room_for store (prio_of packet))
    buffers)
    (sym same)
    (expected_holds output queued store ack packet kept_ahead kept_back
    (room_for store (prio_of packet)) buffers refl covers four
    (subst (λ (i : Input).
    IsBetween output i queued (ForwardPacket ack packet ∷ kept_ahead) kept_back)
    same b))

-- an event that is acted on
pub acted_holds :
    (a b : PortState) (kept_a kept_b : List Event) (e : Event) → Covers (prios_of b.output) b.queued
    → IsOutStore b.queued → is_acted a e ≡ true
    → IsSound a b kept_a (e ∷ kept_b) → Holds b a (acts a e).port (acts a e).held
acted_holds a b kept_a kept_b (Ctl symbol) covers four acted s =
    nothing_held b.output b.queued a.received (expected_of a.input)
    (expected_of (receives (symbol_arrival symbol.s1 symbol.cmd) a.input).state)
    (symbol_expects symbol.s1 symbol.cmd a.input)
acted_holds a b kept_a kept_b (Pkt ack packet) covers four acted s =
    packet_holds b.output b.queued a.received a.input ack packet _ _ _
    (is_expected a.input ack acted)
    covers four s.b_to_a
acted_holds a b kept_a kept_b (Bad cause) covers four acted s = absurd cc

shut_holds :
    (same room : Bool) (buffers : ℕ) (output : Output) (queued : List (List (List ℕ)))
    (store : Buffered)
    (input : Input) (packet : List ℕ) → IsShut (receiver_of input)
    → HoldsAt output queued store (stored (receives
    (if same then (if room then ExpectedWithRoom buffers else ExpectedWithoutRoom buffers)
    else UnexpectedAck)
    input).held store packet) (expected_of input)
    (expected_of (receives
    (if same then (if room then ExpectedWithRoom buffers else ExpectedWithoutRoom buffers)
    else UnexpectedAck)
    input).state)
    (if (receives
    (if same then (if room then ExpectedWithRoom buffers else ExpectedWithoutRoom buffers)
    else UnexpectedAck)
    input).held then Some packet else None)
shut_holds same room buffers output queued store (InputOk expected) packet shut = absurd shut
shut_holds true true buffers output queued store (InputRetryStopped expected) packet shut =
    nothing_held output queued store expected expected refl
shut_holds true false buffers output queued store (InputRetryStopped expected) packet shut =
    nothing_held output queued store expected expected refl
shut_holds false room buffers output queued store (InputRetryStopped expected) packet shut =
    nothing_held output queued store expected expected refl
shut_holds true true buffers output queued store (InputErrorStopped expected) packet shut =
    nothing_held output queued store expected expected refl
shut_holds true false buffers output queued store (InputErrorStopped expected) packet shut =
    nothing_held output queued store expected expected refl
shut_holds false room buffers output queued store (InputErrorStopped expected) packet shut =
    nothing_held output queued store expected expected refl

dropped_holds :
    (output : Output) (queued : List (List (List ℕ))) (store : Buffered) (input : Input) (ack : ℕ)
    (packet : List ℕ) (room : Bool) (buffers : ℕ) → expects input ack ≡ false
    → PacketHolds output queued store input ack packet room buffers
dropped_holds output queued store (InputOk expected) ack packet room buffers other =
    rw other (nothing_held output queued store expected expected refl)
dropped_holds output queued store (InputRetryStopped expected) ack packet room buffers other =
    shut_holds (ack == expected) room buffers output queued store (InputRetryStopped expected)
    packet tt
dropped_holds output queued store (InputErrorStopped expected) ack packet room buffers other =
    shut_holds (ack == expected) room buffers output queued store (InputErrorStopped expected)
    packet tt

-- what is not acted on
pub other_holds : (a b : PortState) (e : Event) → is_acted a e ≡ false
    → Holds b a (acts a e).port (acts a e).held
other_holds a b (Ctl symbol) other = absurd cc
other_holds a b (Pkt ack packet) other =
    dropped_holds b.output b.queued a.received a.input ack packet
    (room_for a.received (prio_of packet)) _ other
other_holds a b (Bad cause) other =
    nothing_held b.output b.queued a.received (expected_of a.input)
    (expected_of (receives (Damaged (number_of cause)) a.input).state)
    (damaged_expects (number_of cause) a.input)

pub acted_frees :
    (a b : PortState) (kept_a kept_b : List Event) (e : Event) → Covers (prios_of a.output) a.queued
    → is_acted a e ≡ true
    → IsSound a b kept_a (e ∷ kept_b) → Frees a (acts a e).port b (acts a e).freed
acted_frees a b kept_a kept_b (Ctl symbol) covers acted s =
    symbol_frees symbol a.output b.input a.queued _ _ covers s.a_to_b
acted_frees a b kept_a kept_b (Pkt ack packet) covers acted s = (refl, refl)
acted_frees a b kept_a kept_b (Bad cause) covers acted s = absurd cc

pub other_frees : (a b : PortState) (e : Event) → is_acted a e ≡ false
    → Frees a (acts a e).port b (acts a e).freed
other_frees a b (Ctl symbol) other = absurd cc
other_frees a b _ other = (refl, refl)
