-- What a sound direction says of a sender that was told of free buffers and of its receiver.
use Rattle.link_sound.proofs.Prelude.{◌≡◌, ℕ, ◌%◌, ◌<◌, true, List, ◌∷◌, length, inl, inr, sym, ap, ◌∙◌, arith, slice_get_within, Covers, Input, Output, Outstanding, distance, InputOk, window_few, prios_of, expected_of, has_asked, Forward, ForwardPacket, ForwardRequest, is_forward, Backward, Response, is_response, IsShut, Lacks, oldest_of, receiver_of, IsBetween}
use Rattle.link_sound.proofs.Turning.{count_is}
use Rattle.link_sound.proofs.CreditHears.{distance_counts}

-- where the sender has to restart, the receiver is shut and expects the oldest packet
pub stopped_shut :
    (output : Output) (input : Input) (queued : List (List (List ℕ))) (kept_ahead : List Forward)
    (kept_back : List Backward) (w : Outstanding) → output ≡ Output.RetryStopped w
    → IsBetween output input queued kept_ahead kept_back
    → (oldest_of output ≡ expected_of input) × IsShut (receiver_of input)
stopped_shut (Output.RetryStopped v) input queued kept_ahead kept_back w is b =
    (b.oldest ∙ ap (λ n. n % 32) (sym b.is.sender.0) ∙ sym b.expected, b.is.sender.1)
stopped_shut _ input queued kept_ahead kept_back w is b = absurd cc

-- a packet that comes is outstanding, and not held yet
pub packet_within :
    (output : Output) (expected ack : ℕ) (packet : List ℕ) (queued : List (List (List ℕ)))
    (kept_ahead : List Forward) (kept_back : List Backward) → Covers (prios_of output) queued
    → IsBetween output (InputOk expected) queued (ForwardPacket ack packet ∷ kept_ahead) kept_back
    → distance (oldest_of output) expected < length (prios_of output)
packet_within output expected ack packet queued kept_ahead kept_back covers b =
    let total =
    count_is (prios_of output) queued b.freed b.sent covers
    (omega (arith, b.is.held_first, b.is.sent_first)) b.outstanding in
    let flight = b.is.receiver.1 in
    let within = slice_get_within b.sent flight.0 packet flight.3 in
    let far =
    distance_counts (oldest_of output) expected b.freed b.held b.oldest b.expected b.is.held_first
    (omega (arith, b.is.sent_first, b.is.few, window_few)) in
    omega (arith, b.is.held_first, flight.2)

-- no link-response is on its way while a packet is
pub packet_unanswered :
    (output : Output) (input : Input) (ack : ℕ) (packet : List ℕ) (queued : List (List (List ℕ)))
    (kept_ahead : List Forward) (kept_back : List Backward)
    → IsBetween output input queued (ForwardPacket ack packet ∷ kept_ahead) kept_back
    → Lacks is_response kept_back
packet_unanswered (Output.RetryStopped w) input ack packet queued kept_ahead kept_back b =
    b.is.sender.5
packet_unanswered (Output.ErrorStopped true w) input ack packet queued kept_ahead kept_back b =
    elim b.is.sender.2 [
      | inl none ↦ none
      | inr none ↦ let never = none.0 in absurd cc
    ]
packet_unanswered Output.Failed input ack packet queued kept_ahead kept_back b = absurd b.is.sender
packet_unanswered _ input ack packet queued kept_ahead kept_back b = b.is.sender.1

-- nothing that means anything is behind a link-request
pub request_alone :
    (output : Output) (input : Input) (queued : List (List (List ℕ))) (kept_ahead : List Forward)
    (kept_back : List Backward)
    → IsBetween output input queued (ForwardRequest ∷ kept_ahead) kept_back
    → Lacks is_forward kept_ahead
request_alone (Output.RetryStopped w) input queued kept_ahead kept_back b =
    let none = b.is.sender.2.0 in absurd cc
request_alone (Output.ErrorStopped true w) input queued kept_ahead kept_back b = b.is.sender.0
request_alone Output.Failed input queued kept_ahead kept_back b = absurd b.is.sender
request_alone _ input queued kept_ahead kept_back b = let none = b.is.sender.0.0 in absurd cc

-- nothing that means anything goes ahead while a link-response is on its way
pub response_alone :
    (output : Output) (input : Input) (queued : List (List (List ℕ))) (ack : ℕ)
    (kept_ahead : List Forward) (kept_back : List Backward) → has_asked output ≡ true
    → IsBetween output input queued kept_ahead (Response ack ∷ kept_back)
    → Lacks is_forward kept_ahead
response_alone (Output.ErrorStopped true w) input queued ack kept_ahead kept_back asked b =
    elim b.is.sender.2 [
      | inl none ↦ let never = none.0 in absurd cc
      | inr none ↦ none
    ]
response_alone _ input queued ack kept_ahead kept_back asked b = absurd cc
