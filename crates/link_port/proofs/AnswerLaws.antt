-- What a port answers is an answer, and an answer is read as itself from any place.
use Rattle.std.proofs.Common.{◌≡◌, ℕ, ◌+◌, ◌<◌, ◌==◌, ◌&&◌, Bool, true, false, Option, Some, List, [], ◌∷◌, ◌++◌, refl, ap, ◌∙◌, if◌then◌else◌, subst, arith}
use Rattle.link_model.specs.Prelude.{Fields, number_of, prio_of, Cause, BadSymbol, BadPacket, BadChar, General, Input, Arrival, symbol_arrival, receives, run, place, place_after, Text, placed, symbol_chars_of}
use Rattle.rio_packets.specs.declared.cause.Cause.TheVariants.{UnexpectedAck}
use Rattle.link_buffers.specs.Queues.{Buffered, room_for, stored}
use Rattle.link_receiver.specs.Status.{buffer_status, comes_to}
use Rattle.link_model.specs.declared.event.Event.{Event}
use Rattle.link_model.specs.declared.event.Event.TheVariants.{Ctl, Pkt, Bad}
use Rattle.link_model.specs.declared.reading_kinds.Pending.{Pending}
use Rattle.link_model.specs.declared.reading_kinds.Pending.TheVariants.{Nothing}
use Rattle.link_model.specs.Places.{broken_off, begins_in}
use Rattle.link_model.specs.Reading.{text_after, told, ends_packet, packet_ended}
use Rattle.link_model.specs.Symbols.{answer}
use Rattle.link_model.specs.Input.{InputOk, InputRetryStopped, InputErrorStopped}
use Rattle.link_model.proofs.ReadingSpeltLaws.{run-symbol_anywhere, place_after-symbol_anywhere}
use Rattle.link_port.specs.Ports.{PortState}
use Rattle.link_port.specs.States.{expected_of}
use Rattle.link_port.specs.Steps.{acts}
use Rattle.link_port.specs.Answers.{IsAnswer, IsReply}

-- the number of a cause, or a buffer status, has five bits
abbrev IsSmall : Arrival → Type 0
IsSmall (Arrival.ExpectedWithRoom buffers) = buffers < 32
IsSmall (Arrival.ExpectedWithoutRoom buffers) = buffers < 32
IsSmall Arrival.UnexpectedAck = Unit {0}
IsSmall (Arrival.Damaged cause) = cause < 32
IsSmall Arrival.RestartFromRetry = Unit {0}
IsSmall Arrival.LinkRequest = Unit {0}
IsSmall Arrival.OtherStype1 = Unit {0}

small_packet : (same room : Bool) (buffers : ℕ) → buffers < 32
    → IsSmall (if same
    then (if room then Arrival.ExpectedWithRoom buffers else Arrival.ExpectedWithoutRoom buffers)
    else Arrival.UnexpectedAck)
small_packet true true buffers few = few
small_packet true false buffers few = few
small_packet false room buffers few = tt

small_status : (tells room : Bool) (store : Buffered) (packet : List ℕ) → store.buffers < 32
    → buffer_status tells (stored room store packet) < 32
small_status true true store packet few = omega arith
small_status true false store packet few = omega arith
small_status false room store packet few = omega arith

small_symbol : (restart request : Bool)
    → IsSmall (if restart then Arrival.RestartFromRetry
    else (if request then Arrival.LinkRequest else Arrival.OtherStype1))
small_symbol true request = tt
small_symbol false true = tt
small_symbol false false = tt

small_cause : (cause : Cause) → number_of cause < 32
small_cause UnexpectedAck = omega arith
small_cause BadSymbol = omega arith
small_cause BadPacket = omega arith
small_cause BadChar = omega arith
small_cause General = omega arith

answers_by : (s0 p0 p1 : ℕ) → s0 < 8 → p0 < 32 → p1 < 32 → IsAnswer (answer s0 p0 p1)
answers_by s0 p0 p1 stype0 first second = record {
  range = record { s0 = stype0; p0 = first; p1 = second; s1 = omega arith; cmd = omega arith };
  nop = refl;
}

received_answers : (what : Arrival) (input : Input) → IsSmall what → expected_of input < 32
    → IsReply (receives what input).reply
received_answers (Arrival.ExpectedWithRoom buffers) (InputOk e) small below =
    answers_by 0 e buffers (omega arith) below small
received_answers (Arrival.ExpectedWithRoom buffers) (InputRetryStopped e) small below = tt
received_answers (Arrival.ExpectedWithRoom buffers) (InputErrorStopped e) small below = tt
received_answers (Arrival.ExpectedWithoutRoom buffers) (InputOk e) small below =
    answers_by 1 e buffers (omega arith) below small
received_answers (Arrival.ExpectedWithoutRoom buffers) (InputRetryStopped e) small below = tt
received_answers (Arrival.ExpectedWithoutRoom buffers) (InputErrorStopped e) small below = tt
received_answers Arrival.UnexpectedAck (InputOk e) small below =
    answers_by 2 e 1 (omega arith) below (omega arith)
received_answers Arrival.UnexpectedAck (InputRetryStopped e) small below = tt
received_answers Arrival.UnexpectedAck (InputErrorStopped e) small below = tt
received_answers (Arrival.Damaged cause) (InputOk e) small below =
    answers_by 2 e cause (omega arith) below small
received_answers (Arrival.Damaged cause) (InputRetryStopped e) small below =
    answers_by 2 e cause (omega arith) below small
received_answers (Arrival.Damaged cause) (InputErrorStopped e) small below = tt
received_answers Arrival.RestartFromRetry (InputOk e) small below =
    answers_by 2 e 31 (omega arith) below (omega arith)
received_answers Arrival.RestartFromRetry (InputRetryStopped e) small below = tt
received_answers Arrival.RestartFromRetry (InputErrorStopped e) small below = tt
received_answers Arrival.LinkRequest (InputOk e) small below =
    answers_by 6 e 16 (omega arith) below (omega arith)
received_answers Arrival.LinkRequest (InputRetryStopped e) small below =
    answers_by 6 e 4 (omega arith) below (omega arith)
received_answers Arrival.LinkRequest (InputErrorStopped e) small below =
    answers_by 6 e 5 (omega arith) below (omega arith)
received_answers Arrival.OtherStype1 (InputOk e) small below = tt
received_answers Arrival.OtherStype1 (InputRetryStopped e) small below = tt
received_answers Arrival.OtherStype1 (InputErrorStopped e) small below = tt

-- whatever comes, the reply is an answer
pub reply_answers : (p : PortState) (e : Event) → expected_of p.input < 32
    → p.received.buffers < 32 → IsReply (acts p e).reply
reply_answers p (Ctl s) below few =
    received_answers (symbol_arrival s.s1 s.cmd) p.input
    (small_symbol (s.s1 == 3) ((s.s1 == 4) && (s.cmd == 4))) below
reply_answers p (Pkt ack packet) below few =
    let room = room_for p.received (prio_of packet) in
    received_answers (comes_to p.tells p.received (expected_of p.input) ack packet) p.input
    (small_packet (ack == expected_of p.input) room _
    (small_status p.tells room p.received packet few)) below
reply_answers p (Bad cause) below few =
    received_answers (Arrival.Damaged (number_of cause)) p.input (small_cause cause) below

-- the symbols with which a port answers tell themselves alone, and leave the text as it was
pub answer_tells : (t : Text) (s : Fields) → IsAnswer s → told t s ≡ Ctl s ∷ []
answer_tells t s is =
    ap (λ (n : ℕ). (if ends_packet n then packet_ended t else []) ++ Ctl s ∷ []) is.nop

pub answer_stays : (t : Text) (s : Fields) → IsAnswer s → text_after t s.s1 ≡ t
answer_stays t s is = ap (text_after t) is.nop

is_answer : (reply : Option Fields) (s : Fields) → IsReply reply → reply ≡ Some s → IsAnswer s
is_answer reply s is same = subst IsReply same is

-- from any place, the characters of an answer say it
pub answer_run : (t : Text) (k : Pending) (at : ℕ) (s : Fields) → IsAnswer s
    → run (place t k) at (symbol_chars_of s) ≡ placed at (broken_off k) ++ (at + 3, Ctl s) ∷ []
answer_run t k at s is =
    run-symbol_anywhere t k at s is.range
    ∙ ap (λ (es : List Event). placed at (broken_off k) ++ placed (at + 3) es)
    (answer_tells (begins_in t k) s is)

pub answer_after : (t : Text) (k : Pending) (s : Fields) → IsAnswer s
    → place_after (place t k) (symbol_chars_of s) ≡ place (begins_in t k) Nothing
answer_after t k s is =
    place_after-symbol_anywhere t k s is.range
    ∙ ap (λ (u : Text). place u Nothing) (answer_stays (begins_in t k) s is)

pub reply_run : (p : PortState) (e : Event) (s : Fields) (t : Text) (k : Pending) (at : ℕ)
    → expected_of p.input < 32 → p.received.buffers < 32 → (acts p e).reply ≡ Some s
    → run (place t k) at (symbol_chars_of s) ≡ placed at (broken_off k) ++ (at + 3, Ctl s) ∷ []
reply_run p e s t k at below few same =
    answer_run t k at s (is_answer (acts p e).reply s (reply_answers p e below few) same)

pub reply_after : (p : PortState) (e : Event) (s : Fields) (t : Text) (k : Pending)
    → expected_of p.input < 32 → p.received.buffers < 32 → (acts p e).reply ≡ Some s
    → place_after (place t k) (symbol_chars_of s) ≡ place (begins_in t k) Nothing
reply_after p e s t k below few same =
    answer_after t k s (is_answer (acts p e).reply s (reply_answers p e below few) same)
