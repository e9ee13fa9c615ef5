-- What comes to a receiver does to its direction, and what it replies to both.
use Rattle.link_sound.proofs.Prelude.{◌≡◌, ◌⊎◌, ℕ, suc, ◌+◌, ◌%◌, ◌==◌, ◌&&◌, Bool, true, false, List, [], ◌∷◌, ◌++◌, inl, inr, refl, sym, subst, if◌then◌else◌, arith, eq-eqb, append-nil, Input, Arrival, packet_arrival, symbol_arrival, receives, Damaged, Output, ExpectedWithRoom, ExpectedWithoutRoom, UnexpectedAck, RestartFromRetry, LinkRequest, OtherStype1, InputErrorStopped, InputOk, InputRetryStopped, Forward, Backward, ForwardPacket, ForwardRestart, ForwardRequest, Other, Response, Neutral, IsShut, ReceiverOk, IsDirection, expected_of, expects, asks, reply_forward, reply_backward, sender_of, receiver_of, IsBetween}
use Rattle.link_sound.proofs.MoveLaws.{lost_front, other_sent}
use Rattle.link_sound.proofs.ReceiverMoves.{error_met, packet_held, packet_refused, no_restart_at_ok, restart_met, request_met}

-- what the receiver acts on is taken away
pub one_taken :
    (output : Output) (input : Input) (queued : List (List (List ℕ))) (mark : Forward)
    (kept_ahead : List Forward) (kept_back : List Backward)
    → IsBetween output input queued (mark ∷ kept_ahead) kept_back
    → IsBetween output input queued kept_ahead kept_back
one_taken output input queued mark kept_ahead kept_back b = record {
  sent = b.sent;
  freed = b.freed;
  held = b.held;
  oldest = b.oldest;
  expected = b.expected;
  outstanding = b.outstanding;
  is =
      lost_front (sender_of output) (receiver_of input) b.freed b.held b.sent (mark ∷ []) kept_ahead
      [] kept_back b.is;
}

-- the receiver meets an error, and says so
error_keeps :
    (output : Output) (input : Input) (queued : List (List (List ℕ))) (kept_ahead : List Forward)
    (kept_back : List Backward)
    → IsBetween output input queued kept_ahead kept_back
    → IsBetween output (InputErrorStopped (expected_of input)) queued kept_ahead
    (kept_back ++ Neutral ∷ [])
error_keeps output input queued kept_ahead kept_back b = record {
  sent = b.sent;
  freed = b.freed;
  held = b.held;
  oldest = b.oldest;
  expected = b.expected;
  outstanding = b.outstanding;
  is =
      error_met (sender_of output) (receiver_of input) b.freed b.held b.sent kept_ahead kept_back
      b.is;
}

restart_keeps :
    (output : Output) (input : Input) (queued : List (List (List ℕ))) (kept_ahead : List Forward)
    (kept_back : List Backward)
    → IsBetween output input queued (ForwardRestart ∷ kept_ahead) kept_back
    → IsBetween output (receives RestartFromRetry input).state queued kept_ahead
    (kept_back ++ reply_backward (receives RestartFromRetry input).reply)
restart_keeps output (InputOk expected) queued kept_ahead kept_back b =
    absurd (no_restart_at_ok (sender_of output) b.freed b.held b.sent kept_ahead kept_back b.is)
restart_keeps output (InputRetryStopped expected) queued kept_ahead kept_back b =
    rw append-nil (record {
      sent = b.sent;
      freed = b.freed;
      held = b.held;
      oldest = b.oldest;
      expected = b.expected;
      outstanding = b.outstanding;
      is = restart_met (sender_of output) b.freed b.held b.sent kept_ahead kept_back b.is;
    })
restart_keeps output (InputErrorStopped expected) queued kept_ahead kept_back b =
    rw append-nil
    (one_taken output (InputErrorStopped expected) queued ForwardRestart kept_ahead kept_back b)

answered_keeps :
    (output : Output) (input : Input) (queued : List (List (List ℕ))) (kept_ahead : List Forward)
    (kept_back : List Backward)
    → IsBetween output input queued (ForwardRequest ∷ kept_ahead) kept_back
    → IsBetween output (InputOk (expected_of input)) queued kept_ahead
    (kept_back ++ Response (expected_of input) ∷ [])
answered_keeps output input queued kept_ahead kept_back b = record {
  sent = b.sent;
  freed = b.freed;
  held = b.held;
  oldest = b.oldest;
  expected = b.expected;
  outstanding = b.outstanding;
  is =
      subst (λ (ack : ℕ). IsDirection (sender_of output) ReceiverOk b.freed b.held b.sent
      kept_ahead (kept_back ++ Response ack ∷ [])) (sym b.expected)
      (request_met (sender_of output) (receiver_of input) b.freed b.held b.sent kept_ahead kept_back
      b.is);
}

request_keeps :
    (output : Output) (input : Input) (queued : List (List (List ℕ))) (kept_ahead : List Forward)
    (kept_back : List Backward)
    → IsBetween output input queued (ForwardRequest ∷ kept_ahead) kept_back
    → IsBetween output (receives LinkRequest input).state queued kept_ahead
    (kept_back ++ reply_backward (receives LinkRequest input).reply)
request_keeps output (InputOk expected) queued kept_ahead kept_back b =
    answered_keeps output (InputOk expected) queued kept_ahead kept_back b
request_keeps output (InputRetryStopped expected) queued kept_ahead kept_back b =
    answered_keeps output (InputRetryStopped expected) queued kept_ahead kept_back b
request_keeps output (InputErrorStopped expected) queued kept_ahead kept_back b =
    answered_keeps output (InputErrorStopped expected) queued kept_ahead kept_back b

other_keeps :
    (output : Output) (input : Input) (queued : List (List (List ℕ))) (kept_ahead : List Forward)
    (kept_back : List Backward) → IsBetween output input queued kept_ahead kept_back
    → IsBetween output (receives OtherStype1 input).state queued kept_ahead
    (kept_back ++ reply_backward (receives OtherStype1 input).reply)
other_keeps output (InputOk expected) queued kept_ahead kept_back b = rw append-nil b
other_keeps output (InputRetryStopped expected) queued kept_ahead kept_back b = rw append-nil b
other_keeps output (InputErrorStopped expected) queued kept_ahead kept_back b = rw append-nil b

-- the two tests of a symbol's stype1 and cmd
abbrev pub arrival : Bool → Bool → Arrival
arrival is_restart is_request =
    if is_restart then RestartFromRetry else (if is_request then LinkRequest else OtherStype1)

obeyed_keeps :
    (is_restart is_request : Bool) (output : Output) (input : Input) (queued : List (List (List ℕ)))
    (kept_ahead : List Forward) (kept_back : List Backward)
    → IsBetween output input queued (asks (arrival is_restart is_request) ∷ kept_ahead) kept_back
    → IsBetween output (receives (arrival is_restart is_request) input).state queued kept_ahead
    (kept_back ++ reply_backward (receives (arrival is_restart is_request) input).reply)
obeyed_keeps true is_request output input queued kept_ahead kept_back b =
    restart_keeps output input queued kept_ahead kept_back b
obeyed_keeps false true output input queued kept_ahead kept_back b =
    request_keeps output input queued kept_ahead kept_back b
obeyed_keeps false false output input queued kept_ahead kept_back b =
    other_keeps output input queued kept_ahead kept_back
    (one_taken output input queued Other kept_ahead kept_back b)

-- a symbol comes
pub symbol_keeps :
    (s1 cmd : ℕ) (output : Output) (input : Input) (queued : List (List (List ℕ)))
    (kept_ahead : List Forward) (kept_back : List Backward)
    → IsBetween output input queued (asks (symbol_arrival s1 cmd) ∷ kept_ahead) kept_back
    → IsBetween output (receives (symbol_arrival s1 cmd) input).state queued kept_ahead
    (kept_back ++ reply_backward (receives (symbol_arrival s1 cmd) input).reply)
symbol_keeps s1 cmd output input queued kept_ahead kept_back b =
    obeyed_keeps (s1 == 3) ((s1 == 4) && (cmd == 4)) output input queued kept_ahead kept_back b

-- what is no packet or symbol comes
pub damaged_keeps :
    (cause : ℕ) (output : Output) (input : Input) (queued : List (List (List ℕ)))
    (kept_ahead : List Forward) (kept_back : List Backward)
    → IsBetween output input queued kept_ahead kept_back
    → IsBetween output (receives (Damaged cause) input).state queued kept_ahead
    (kept_back ++ reply_backward (receives (Damaged cause) input).reply)
damaged_keeps cause output (InputOk expected) queued kept_ahead kept_back b =
    error_keeps output (InputOk expected) queued kept_ahead kept_back b
damaged_keeps cause output (InputRetryStopped expected) queued kept_ahead kept_back b =
    error_keeps output (InputRetryStopped expected) queued kept_ahead kept_back b
damaged_keeps cause output (InputErrorStopped expected) queued kept_ahead kept_back b =
    rw append-nil b

pub next_expected : (expected held : ℕ) → expected ≡ held % 32 → (expected + 1) % 32 ≡ suc held % 32
next_expected expected held is = omega arith

-- the packet that is expected comes
pub expected_keeps :
    (room : Bool) (buffers ack : ℕ) (packet : List ℕ) (output : Output)
    (queued : List (List (List ℕ)))
    (kept_ahead : List Forward) (kept_back : List Backward)
    → IsBetween output (InputOk ack) queued (ForwardPacket ack packet ∷ kept_ahead) kept_back
    → IsBetween output (receives (packet_arrival ack ack room buffers) (InputOk ack)).state queued
    kept_ahead
    (kept_back ++ reply_backward (receives (packet_arrival ack ack room buffers)
    (InputOk ack)).reply)
expected_keeps true buffers ack packet output queued kept_ahead kept_back b =
    let does =
    packet_held (sender_of output) b.freed b.held ack b.sent packet kept_ahead kept_back
    b.expected b.is in
    rw (eq-eqb ack ack refl) (record {
      sent = b.sent;
      freed = b.freed;
      held = suc b.held;
      oldest = b.oldest;
      expected = next_expected ack b.held b.expected;
      outstanding = b.outstanding;
      is = does.1;
    })
expected_keeps false buffers ack packet output queued kept_ahead kept_back b =
    rw (eq-eqb ack ack refl) (record {
      sent = b.sent;
      freed = b.freed;
      held = b.held;
      oldest = b.oldest;
      expected = b.expected;
      outstanding = b.outstanding;
      is =
          packet_refused (sender_of output) b.freed b.held ack b.sent packet kept_ahead kept_back
          b.expected b.is;
    })

dropped :
    (same room : Bool) (buffers : ℕ) (output : Output) (input : Input)
    (queued : List (List (List ℕ)))
    (kept_ahead : List Forward) (kept_back : List Backward)
    → IsBetween output input queued kept_ahead kept_back → IsShut (receiver_of input)
    → IsBetween output (receives
    (if same then (if room then ExpectedWithRoom buffers else ExpectedWithoutRoom buffers)
    else UnexpectedAck)
    input).state queued kept_ahead
    (kept_back ++ reply_backward (receives
    (if same then (if room then ExpectedWithRoom buffers else ExpectedWithoutRoom buffers)
    else UnexpectedAck)
    input).reply)
dropped same room buffers output (InputOk expected) queued kept_ahead kept_back b shut = absurd
    shut
dropped true true buffers output (InputRetryStopped expected) queued kept_ahead kept_back b shut =
    rw append-nil b
dropped true false buffers output (InputRetryStopped expected) queued kept_ahead kept_back b shut =
    rw append-nil b
dropped false room buffers output (InputRetryStopped expected) queued kept_ahead kept_back b shut =
    rw append-nil b
dropped true true buffers output (InputErrorStopped expected) queued kept_ahead kept_back b shut =
    rw append-nil b
dropped true false buffers output (InputErrorStopped expected) queued kept_ahead kept_back b shut =
    rw append-nil b
dropped false room buffers output (InputErrorStopped expected) queued kept_ahead kept_back b shut =
    rw append-nil b

-- a packet comes that is not expected, or while packets are dropped
pub unexpected_keeps :
    (room : Bool) (buffers ack : ℕ) (output : Output) (input : Input)
    (queued : List (List (List ℕ)))
    (kept_ahead : List Forward) (kept_back : List Backward) → expects input ack ≡ false
    → IsBetween output input queued kept_ahead kept_back
    → IsBetween output (receives (packet_arrival (expected_of input) ack room buffers) input).state
    queued
    kept_ahead
    (kept_back
    ++ reply_backward (receives (packet_arrival (expected_of input) ack room buffers) input).reply)
unexpected_keeps room buffers ack output (InputOk expected) queued kept_ahead kept_back other b =
    rw other (error_keeps output (InputOk expected) queued kept_ahead kept_back b)
unexpected_keeps room buffers ack output (InputRetryStopped expected) queued kept_ahead kept_back
    other b =
    dropped (ack == expected) room buffers output (InputRetryStopped expected) queued kept_ahead
    kept_back
    b tt
unexpected_keeps room buffers ack output (InputErrorStopped expected) queued kept_ahead kept_back
    other b =
    dropped (ack == expected) room buffers output (InputErrorStopped expected) queued kept_ahead
    kept_back
    b tt

-- a reply means nothing to the far receiver
reply_is_other : (what : Arrival) (input : Input)
    → (reply_forward (receives what input).reply ≡ [])
    ⊎ (reply_forward (receives what input).reply ≡ Other ∷ [])
reply_is_other (ExpectedWithRoom buffers) (InputOk expected) = inr refl
reply_is_other (ExpectedWithRoom buffers) (InputRetryStopped expected) = inl refl
reply_is_other (ExpectedWithRoom buffers) (InputErrorStopped expected) = inl refl
reply_is_other (ExpectedWithoutRoom buffers) (InputOk expected) = inr refl
reply_is_other (ExpectedWithoutRoom buffers) (InputRetryStopped expected) = inl refl
reply_is_other (ExpectedWithoutRoom buffers) (InputErrorStopped expected) = inl refl
reply_is_other UnexpectedAck (InputOk expected) = inr refl
reply_is_other UnexpectedAck (InputRetryStopped expected) = inl refl
reply_is_other UnexpectedAck (InputErrorStopped expected) = inl refl
reply_is_other (Damaged cause) (InputOk expected) = inr refl
reply_is_other (Damaged cause) (InputRetryStopped expected) = inr refl
reply_is_other (Damaged cause) (InputErrorStopped expected) = inl refl
reply_is_other RestartFromRetry (InputOk expected) = inr refl
reply_is_other RestartFromRetry (InputRetryStopped expected) = inl refl
reply_is_other RestartFromRetry (InputErrorStopped expected) = inl refl
reply_is_other LinkRequest (InputOk expected) = inr refl
reply_is_other LinkRequest (InputRetryStopped expected) = inr refl
reply_is_other LinkRequest (InputErrorStopped expected) = inr refl
reply_is_other OtherStype1 (InputOk expected) = inl refl
reply_is_other OtherStype1 (InputRetryStopped expected) = inl refl
reply_is_other OtherStype1 (InputErrorStopped expected) = inl refl

-- the other direction, whose sender's port replies
pub reply_keeps :
    (what : Arrival) (half : Input) (output : Output) (input : Input)
    (queued : List (List (List ℕ))) (kept_ahead : List Forward) (kept_back : List Backward)
    → IsBetween output input queued kept_ahead kept_back
    → IsBetween output input queued (kept_ahead ++ reply_forward (receives what half).reply)
    kept_back
reply_keeps what half output input queued kept_ahead kept_back b =
    elim (reply_is_other what half) [
      | inl none ↦ rw none (rw append-nil b)
      | inr one ↦ rw one (record {
        sent = b.sent;
        freed = b.freed;
        held = b.held;
        oldest = b.oldest;
        expected = b.expected;
        outstanding = b.outstanding;
        is =
            other_sent (sender_of output) (receiver_of input) b.freed b.held b.sent kept_ahead
            kept_back b.is;
      })
    ]
