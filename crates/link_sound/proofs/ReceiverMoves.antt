-- What a receiver does to a direction when something comes.
use Rattle.link_sound.proofs.Prelude.{◌≡◌, ℕ, suc, ◌+◌, ◌%◌, ◌≤◌, List, [], ◌∷◌, ◌++◌, length, Some, slice_get, inl, inr, refl, sym, ◌∙◌, subst, arith, slice_get_within, window, window_few, Forward, ForwardPacket, ForwardRestart, ForwardRequest, is_restart, is_forward, Backward, Accept, Retry, Response, Neutral, is_retry, is_response, Lacks, AcceptsInTurn, PacketsInTurn, RetryOnce, Sender, SenderOk, SenderRetryStopped, SenderErrorStopped, SenderFailed, Receiver, ReceiverErrorStopped, ReceiverOk, ReceiverRetryStopped, FitsSender, IsDirection}
use Rattle.link_sound.proofs.KeptLaws.{Lacks-append, AcceptsInTurn-accept, AcceptsInTurn-append, PacketsInTurn-none, RetryOnce-none, RetryOnce-retry, RestartOnce-none, RequestLast-none, ResponseLast-none, ResponseLast-response}
use Rattle.link_sound.proofs.NoneLaws.{Lacks-restart}
use Rattle.link_sound.proofs.MoveLaws.{same_number, neutral_sent}

FitsSender-error_stopped :
    (s : Sender) (r : Receiver) (freed held : ℕ) (kept_ahead : List Forward)
    (kept_back : List Backward) → FitsSender s r freed held kept_ahead kept_back
    → FitsSender s ReceiverErrorStopped freed held kept_ahead kept_back
FitsSender-error_stopped SenderOk r freed held kept_ahead kept_back
    (asks, answers, once, inl none) =
    (asks, answers, once, inl none)
FitsSender-error_stopped SenderOk r freed held kept_ahead kept_back
    (asks, answers, once, inr (shut, none)) =
    (asks, answers, once, inr (tt, none))
FitsSender-error_stopped SenderRetryStopped r freed held kept_ahead kept_back
    (same, shut, asks, starts, retries, answers) =
    (same, tt, asks, starts, retries, answers)
FitsSender-error_stopped SenderErrorStopped r freed held kept_ahead kept_back d = d
FitsSender-error_stopped Sender.ErrorStoppedAsked r freed held kept_ahead kept_back d = d
FitsSender-error_stopped SenderFailed r freed held kept_ahead kept_back never = never

pub error_met :
    (s : Sender) (r : Receiver) (freed held : ℕ) (sent : List (List ℕ)) (kept_ahead : List Forward)
    (kept_back : List Backward) → IsDirection s r freed held sent kept_ahead kept_back
    → IsDirection s ReceiverErrorStopped freed held sent kept_ahead (kept_back ++ Neutral ∷ [])
error_met s r freed held sent kept_ahead kept_back d =
    neutral_sent s ReceiverErrorStopped freed held sent kept_ahead kept_back (record {
      held_first = d.held_first;
      sent_first = d.sent_first;
      few = d.few;
      accepts = d.accepts;
      sender = FitsSender-error_stopped s r freed held kept_ahead kept_back d.sender;
      receiver = tt;
    })

-- the packet that is expected is the one that was sent in its place
found_there :
    (freed held ack : ℕ) (sent : List (List ℕ)) (packet : List ℕ) (kept_ahead : List Forward)
    → freed ≤ held → length sent ≤ freed + window → ack ≡ held % 32
    → PacketsInTurn sent held (ForwardPacket ack packet ∷ kept_ahead)
    → (slice_get sent held ≡ Some packet) × PacketsInTurn sent (suc held) kept_ahead
found_there freed held ack sent packet kept_ahead first few expected (n, is, from, found, rest) =
    let within = slice_get_within sent n packet found in
    let same : n ≡ held =
    same_number held n held (sym is ∙ expected) from (omega arith) (omega (arith, window_few))
    (omega arith) in (
      subst (λ (m : ℕ). slice_get sent m ≡ Some packet) same found,
      subst (λ (m : ℕ). PacketsInTurn sent (suc m) kept_ahead) same rest,
    )

FitsSender-accepted :
    (s : Sender) (freed held ack : ℕ) (packet : List ℕ) (kept_ahead : List Forward)
    (kept_back : List Backward)
    → FitsSender s ReceiverOk freed held (ForwardPacket ack packet ∷ kept_ahead) kept_back
    → FitsSender s ReceiverOk freed (suc held) kept_ahead (kept_back ++ Accept ack ∷ [])
FitsSender-accepted SenderOk freed held ack packet kept_ahead kept_back
    (asks, answers, once, inl none) =
    let lacks = Lacks-append is_retry kept_back (Accept ack) none refl in (
      asks.1,
      Lacks-append is_response kept_back (Accept ack) answers refl,
      RetryOnce-none (suc held) (kept_back ++ Accept ack ∷ []) lacks,
      inl lacks,
    )
FitsSender-accepted SenderOk freed held ack packet kept_ahead kept_back
    (asks, answers, once, inr (shut, none)) =
    absurd shut
FitsSender-accepted SenderRetryStopped freed held ack packet kept_ahead kept_back
    (same, shut, asks, starts, retries, answers) =
    absurd shut
FitsSender-accepted SenderErrorStopped freed held ack packet kept_ahead kept_back (asks, answers) =
    (asks.1, Lacks-append is_response kept_back (Accept ack) answers refl)
FitsSender-accepted Sender.ErrorStoppedAsked freed held ack packet kept_ahead kept_back
    (asks, answers, inl none) =
    let lacks = Lacks-append is_response kept_back (Accept ack) none refl in
    (asks, ResponseLast-none (suc held) (kept_back ++ Accept ack ∷ []) lacks, inl lacks)
FitsSender-accepted Sender.ErrorStoppedAsked freed held ack packet kept_ahead kept_back
    (asks, answers, inr none) =
    absurd cc
FitsSender-accepted SenderFailed freed held ack packet kept_ahead kept_back never = never

-- the packet that is expected comes and is held
pub packet_held :
    (s : Sender) (freed held ack : ℕ) (sent : List (List ℕ)) (packet : List ℕ)
    (kept_ahead : List Forward) (kept_back : List Backward) → ack ≡ held % 32
    → IsDirection s ReceiverOk freed held sent (ForwardPacket ack packet ∷ kept_ahead) kept_back
    → (slice_get sent held ≡ Some packet)
    × IsDirection s ReceiverOk freed (suc held) sent kept_ahead (kept_back ++ Accept ack ∷ [])
packet_held s freed held ack sent packet kept_ahead kept_back expected d =
    let there =
    found_there freed held ack sent packet kept_ahead d.held_first d.few expected
    d.receiver.1 in
    let within = slice_get_within sent held packet there.0 in
    let first = d.held_first in (
      there.0,
      record {
        held_first = omega arith;
        sent_first = within;
        few = d.few;
        accepts =
            subst (λ (a : ℕ). AcceptsInTurn freed (suc held) (kept_back ++ Accept a ∷ []))
            (sym expected) (AcceptsInTurn-accept freed held kept_back first d.accepts);
        sender = FitsSender-accepted s freed held ack packet kept_ahead kept_back d.sender;
        receiver = (d.receiver.0.1, there.1);
      },
    )

FitsSender-retry_stopped :
    (s : Sender) (freed held ack : ℕ) (packet : List ℕ) (kept_ahead : List Forward)
    (kept_back : List Backward) → ack ≡ held % 32 → Lacks is_restart kept_ahead
    → FitsSender s ReceiverOk freed held (ForwardPacket ack packet ∷ kept_ahead) kept_back
    → FitsSender s ReceiverRetryStopped freed held kept_ahead (kept_back ++ Retry ack ∷ [])
FitsSender-retry_stopped SenderOk freed held ack packet kept_ahead kept_back expected starts
    (asks, answers, once, inl none) = (
      asks.1,
      Lacks-append is_response kept_back (Retry ack) answers refl,
      subst (λ (a : ℕ). RetryOnce held (kept_back ++ Retry a ∷ [])) (sym expected)
          (RetryOnce-retry held kept_back none),
      inr (tt, starts),
    )
FitsSender-retry_stopped SenderOk freed held ack packet kept_ahead kept_back expected starts
    (asks, answers, once, inr (shut, none)) =
    absurd shut
FitsSender-retry_stopped SenderRetryStopped freed held ack packet kept_ahead kept_back expected
    starts (same, shut, asks, none, retries, answers) =
    absurd shut
FitsSender-retry_stopped SenderErrorStopped freed held ack packet kept_ahead kept_back expected
    starts (asks, answers) =
    (asks.1, Lacks-append is_response kept_back (Retry ack) answers refl)
FitsSender-retry_stopped Sender.ErrorStoppedAsked freed held ack packet kept_ahead kept_back
    expected starts (asks, answers, inl none) =
    let lacks = Lacks-append is_response kept_back (Retry ack) none refl in
    (asks, ResponseLast-none held (kept_back ++ Retry ack ∷ []) lacks, inl lacks)
FitsSender-retry_stopped Sender.ErrorStoppedAsked freed held ack packet kept_ahead kept_back
    expected starts (asks, answers, inr none) =
    absurd cc
FitsSender-retry_stopped SenderFailed freed held ack packet kept_ahead kept_back expected starts
    never =
    never

-- it comes and has no room
pub packet_refused :
    (s : Sender) (freed held ack : ℕ) (sent : List (List ℕ)) (packet : List ℕ)
    (kept_ahead : List Forward) (kept_back : List Backward) → ack ≡ held % 32
    → IsDirection s ReceiverOk freed held sent (ForwardPacket ack packet ∷ kept_ahead) kept_back
    → IsDirection s ReceiverRetryStopped freed held sent kept_ahead
    (kept_back ++ Retry ack ∷ [])
packet_refused s freed held ack sent packet kept_ahead kept_back expected d = record {
  held_first = d.held_first;
  sent_first = d.sent_first;
  few = d.few;
  accepts = AcceptsInTurn-append freed held kept_back (Retry ack) refl d.accepts;
  sender =
      FitsSender-retry_stopped s freed held ack packet kept_ahead kept_back expected d.receiver.0.1
      d.sender;
  receiver = RestartOnce-none sent held kept_ahead d.receiver.0.1;
}

-- a restart-from-retry does not come where packets are taken
pub no_restart_at_ok :
    (s : Sender) (freed held : ℕ) (sent : List (List ℕ)) (kept_ahead : List Forward)
    (kept_back : List Backward)
    → IsDirection s ReceiverOk freed held sent (ForwardRestart ∷ kept_ahead) kept_back → ⊥
no_restart_at_ok s freed held sent kept_ahead kept_back d = let none = d.receiver.0.0 in absurd cc

FitsSender-reopened :
    (s : Sender) (freed held : ℕ) (kept_ahead : List Forward) (kept_back : List Backward)
    → FitsSender s ReceiverRetryStopped freed held (ForwardRestart ∷ kept_ahead) kept_back
    → FitsSender s ReceiverOk freed held kept_ahead kept_back
FitsSender-reopened SenderOk freed held kept_ahead kept_back (asks, answers, once, inl none) =
    (asks.1, answers, once, inl none)
FitsSender-reopened SenderOk freed held kept_ahead kept_back
    (asks, answers, once, inr (shut, none)) =
    absurd cc
FitsSender-reopened SenderRetryStopped freed held kept_ahead kept_back
    (same, shut, asks, starts, retries, answers) =
    absurd cc
FitsSender-reopened SenderErrorStopped freed held kept_ahead kept_back (asks, answers) =
    (asks.1, answers)
FitsSender-reopened Sender.ErrorStoppedAsked freed held kept_ahead kept_back
    (asks, answers, inl none) =
    (asks, answers, inl none)
FitsSender-reopened Sender.ErrorStoppedAsked freed held kept_ahead kept_back
    (asks, answers, inr none) =
    absurd cc
FitsSender-reopened SenderFailed freed held kept_ahead kept_back never = never

-- it comes to a receiver that asked for a retry
pub restart_met :
    (s : Sender) (freed held : ℕ) (sent : List (List ℕ)) (kept_ahead : List Forward)
    (kept_back : List Backward)
    → IsDirection s ReceiverRetryStopped freed held sent (ForwardRestart ∷ kept_ahead) kept_back
    → IsDirection s ReceiverOk freed held sent kept_ahead kept_back
restart_met s freed held sent kept_ahead kept_back d = record {
  held_first = d.held_first;
  sent_first = d.sent_first;
  few = d.few;
  accepts = d.accepts;
  sender = FitsSender-reopened s freed held kept_ahead kept_back d.sender;
  receiver = d.receiver;
}

-- a link-request comes from a sender alone that has asked, and nothing is behind it
FitsSender-answered :
    (s : Sender) (r : Receiver) (freed held : ℕ) (kept_ahead : List Forward)
    (kept_back : List Backward) → FitsSender s r freed held (ForwardRequest ∷ kept_ahead) kept_back
    → FitsSender s ReceiverOk freed held kept_ahead (kept_back ++ Response (held % 32) ∷ [])
    × Lacks is_forward kept_ahead
FitsSender-answered SenderOk r freed held kept_ahead kept_back (asks, answers, once, retries) =
    absurd cc
FitsSender-answered SenderRetryStopped r freed held kept_ahead kept_back
    (same, shut, asks, starts, retries, answers) =
    absurd cc
FitsSender-answered SenderErrorStopped r freed held kept_ahead kept_back (asks, answers) = absurd cc
FitsSender-answered Sender.ErrorStoppedAsked r freed held kept_ahead kept_back
    (asks, answers, inl none) =
    ((RequestLast-none kept_ahead asks, ResponseLast-response held kept_back none, inr asks), asks)
FitsSender-answered Sender.ErrorStoppedAsked r freed held kept_ahead kept_back
    (asks, answers, inr none) =
    absurd cc
FitsSender-answered SenderFailed r freed held kept_ahead kept_back never = absurd never

pub request_met :
    (s : Sender) (r : Receiver) (freed held : ℕ) (sent : List (List ℕ)) (kept_ahead : List Forward)
    (kept_back : List Backward)
    → IsDirection s r freed held sent (ForwardRequest ∷ kept_ahead) kept_back
    → IsDirection s ReceiverOk freed held sent kept_ahead
    (kept_back ++ Response (held % 32) ∷ [])
request_met s r freed held sent kept_ahead kept_back d =
    let does = FitsSender-answered s r freed held kept_ahead kept_back d.sender in
    record {
      held_first = d.held_first;
      sent_first = d.sent_first;
      few = d.few;
      accepts = AcceptsInTurn-append freed held kept_back (Response (held % 32)) refl d.accepts;
      sender = does.0;
      receiver = (Lacks-restart kept_ahead does.1, PacketsInTurn-none sent held kept_ahead does.1);
    }
