-- What a sender does to a direction when a symbol comes back.
use Rattle.link_sound.proofs.Prelude.{◌≡◌, ℕ, suc, ◌+◌, ◌-◌, ◌%◌, ◌<◌, ◌≤◌, List, ◌∷◌, length, take, inl, inr, refl, sym, ◌∙◌, subst, arith, length-take-le, distance, window, window_few, Forward, is_forward, Backward, Accept, Retry, Response, is_backward, Lacks, AcceptsInTurn, Sender, SenderOk, SenderErrorStopped, SenderRetryStopped, SenderFailed, Receiver, ReceiverOk, ReceiverRetryStopped, ReceiverErrorStopped, FitsSender, FitsReceiver, IsDirection}
use Rattle.link_sound.proofs.KeptLaws.{AcceptsInTurn-none, PacketsInTurn-none, RetryOnce-none, RestartOnce-none, Lacks-response}
use Rattle.link_sound.proofs.NoneLaws.{Lacks-restart, Lacks-request, Lacks-retry}
use Rattle.link_sound.proofs.MoveLaws.{same_number}

-- an error, or a packet-not-accepted
pub error_at_ok_direction :
    (r : Receiver) (freed held : ℕ) (sent : List (List ℕ)) (kept_ahead : List Forward)
    (kept_back : List Backward) → IsDirection SenderOk r freed held sent kept_ahead kept_back
    → IsDirection SenderErrorStopped r freed held sent kept_ahead kept_back
error_at_ok_direction r freed held sent kept_ahead kept_back d = record {
  held_first = d.held_first;
  sent_first = d.sent_first;
  few = d.few;
  accepts = d.accepts;
  sender = (d.sender.0, d.sender.1);
  receiver = d.receiver;
}

pub error_at_retry_stopped :
    (r : Receiver) (freed held : ℕ) (sent : List (List ℕ)) (kept_ahead : List Forward)
    (kept_back : List Backward)
    → IsDirection SenderRetryStopped r freed held sent kept_ahead kept_back
    → IsDirection SenderErrorStopped r freed held sent kept_ahead kept_back
error_at_retry_stopped r freed held sent kept_ahead kept_back d = record {
  held_first = d.held_first;
  sent_first = d.sent_first;
  few = d.few;
  accepts = d.accepts;
  sender = (d.sender.2, d.sender.5);
  receiver = d.receiver;
}

-- the acceptance of the oldest packet is of one that is held
oldest_held :
    (freed held ack : ℕ) (sent : List (List ℕ)) (kept_back : List Backward) → held ≤ length sent
    → length sent ≤ freed + window → ack ≡ freed % 32
    → AcceptsInTurn freed held (Accept ack ∷ kept_back)
    → (freed < held) × AcceptsInTurn (suc freed) held kept_back
oldest_held freed held ack sent kept_back first few oldest (n, is, from, within, rest) =
    let same : n ≡ freed =
    same_number freed n freed (sym is ∙ oldest) from (omega arith) (omega (arith, window_few))
    (omega arith) in
    (omega arith, subst (λ (m : ℕ). AcceptsInTurn (suc m) held kept_back) same rest)

FitsSender-freed :
    (r : Receiver) (freed held ack : ℕ) (kept_ahead : List Forward) (kept_back : List Backward)
    → FitsSender SenderOk r freed held kept_ahead (Accept ack ∷ kept_back)
    → FitsSender SenderOk r (suc freed) held kept_ahead kept_back
FitsSender-freed r freed held ack kept_ahead kept_back (asks, answers, once, inl none) =
    (asks, answers.1, once, inl none.1)
FitsSender-freed r freed held ack kept_ahead kept_back (asks, answers, once, inr shut) =
    (asks, answers.1, once, inr shut)

pub oldest_accepted :
    (r : Receiver) (freed held ack : ℕ) (sent : List (List ℕ)) (kept_ahead : List Forward)
    (kept_back : List Backward) → ack ≡ freed % 32
    → IsDirection SenderOk r freed held sent kept_ahead (Accept ack ∷ kept_back)
    → (freed < held) × IsDirection SenderOk r (suc freed) held sent kept_ahead kept_back
oldest_accepted r freed held ack sent kept_ahead kept_back oldest d =
    let does = oldest_held freed held ack sent kept_back d.sent_first d.few oldest d.accepts in
    let few = d.few in (
      does.0,
      record {
        held_first = does.0;
        sent_first = d.sent_first;
        few = omega arith;
        accepts = does.1;
        sender = FitsSender-freed r freed held ack kept_ahead kept_back d.sender;
        receiver = d.receiver;
      },
    )

pub none_between : (freed held ack : ℕ) (kept_back : List Backward) → held ≡ freed
    → AcceptsInTurn freed held (Accept ack ∷ kept_back) → ⊥
none_between freed held ack kept_back same (n, is, from, within, rest) = omega arith

pub no_accept_at_retry :
    (r : Receiver) (freed held ack : ℕ) (sent : List (List ℕ)) (kept_ahead : List Forward)
    (kept_back : List Backward)
    → IsDirection SenderRetryStopped r freed held sent kept_ahead (Accept ack ∷ kept_back) → ⊥
no_accept_at_retry r freed held ack sent kept_ahead kept_back d =
    none_between freed held ack kept_back d.sender.0 d.accepts

pub no_retry_at_retry :
    (r : Receiver) (freed held ack : ℕ) (sent : List (List ℕ)) (kept_ahead : List Forward)
    (kept_back : List Backward)
    → IsDirection SenderRetryStopped r freed held sent kept_ahead (Retry ack ∷ kept_back) → ⊥
no_retry_at_retry r freed held ack sent kept_ahead kept_back d =
    let none = d.sender.4.0 in absurd cc

FitsSender-retried :
    (r : Receiver) (freed held ack : ℕ) (kept_ahead : List Forward) (kept_back : List Backward)
    → freed ≤ held → held ≤ freed + window → ack ≡ freed % 32
    → FitsSender SenderOk r freed held kept_ahead (Retry ack ∷ kept_back)
    → FitsSender SenderRetryStopped r freed held kept_ahead kept_back
FitsSender-retried r freed held ack kept_ahead kept_back first few oldest
    (asks, answers, once, inl none) =
    absurd cc
FitsSender-retried r freed held ack kept_ahead kept_back first few oldest
    (asks, answers, once, inr (shut, none)) =
    let same : held ≡ freed =
    same_number freed held freed (sym once.0 ∙ oldest) first (omega arith)
    (omega (arith, window_few)) (omega arith) in
    (same, shut, asks, none, once.1, answers.1)

-- the oldest packet has to be sent again
pub oldest_refused :
    (r : Receiver) (freed held ack : ℕ) (sent : List (List ℕ)) (kept_ahead : List Forward)
    (kept_back : List Backward) → ack ≡ freed % 32
    → IsDirection SenderOk r freed held sent kept_ahead (Retry ack ∷ kept_back)
    → IsDirection SenderRetryStopped r freed held sent kept_ahead kept_back
oldest_refused r freed held ack sent kept_ahead kept_back oldest d =
    let first = d.sent_first in
    let few = d.few in
    record {
      held_first = d.held_first;
      sent_first = d.sent_first;
      few = d.few;
      accepts = d.accepts;
      sender =
          FitsSender-retried r freed held ack kept_ahead kept_back d.held_first (omega arith) oldest
          d.sender;
      receiver = d.receiver;
    }

-- a link-response comes to a sender alone that has asked, and nothing of the direction is on its
-- way beside it
pub no_response_unasked :
    (s : Sender) (r : Receiver) (freed held ack : ℕ) (sent : List (List ℕ))
    (kept_ahead : List Forward) (kept_back : List Backward)
    → IsDirection s r freed held sent kept_ahead (Response ack ∷ kept_back)
    → s ≡ Sender.ErrorStoppedAsked
no_response_unasked SenderRetryStopped r freed held ack sent kept_ahead kept_back d =
    let none = d.sender.5.0 in absurd cc
no_response_unasked Sender.ErrorStoppedAsked r freed held ack sent kept_ahead kept_back d = refl
no_response_unasked SenderFailed r freed held ack sent kept_ahead kept_back d = absurd d.sender
no_response_unasked _ r freed held ack sent kept_ahead kept_back d =
    let none = d.sender.1.0 in absurd cc

response_alone :
    (r : Receiver) (freed held ack : ℕ) (kept_ahead : List Forward) (kept_back : List Backward)
    → FitsSender Sender.ErrorStoppedAsked r freed held kept_ahead (Response ack ∷ kept_back)
    → (ack ≡ held % 32) × Lacks is_backward kept_back × Lacks is_forward kept_ahead
response_alone r freed held ack kept_ahead kept_back (asks, last, inl none) = absurd cc
response_alone r freed held ack kept_ahead kept_back (asks, last, inr none) = (last.0, last.1, none)

FitsReceiver-none : (r : Receiver) (held : ℕ) (sent : List (List ℕ)) (kept_ahead : List Forward)
    → Lacks is_forward kept_ahead → FitsReceiver r held sent kept_ahead
FitsReceiver-none ReceiverOk held sent kept_ahead none =
    (Lacks-restart kept_ahead none, PacketsInTurn-none sent held kept_ahead none)
FitsReceiver-none ReceiverRetryStopped held sent kept_ahead none =
    RestartOnce-none sent held kept_ahead (Lacks-restart kept_ahead none)
FitsReceiver-none ReceiverErrorStopped held sent kept_ahead none = tt

-- how far two numbers are apart is told by their ackIDs
pub distance_is : (freed held ack : ℕ) → ack ≡ held % 32 → freed ≤ held → held ≤ freed + window
    → distance (freed % 32) ack ≡ held - freed
distance_is freed held ack is first few = omega (arith, window_few)

-- its ackID is that of the expected packet, and all packets before it are held
pub answered :
    (r : Receiver) (freed held ack : ℕ) (sent : List (List ℕ)) (kept_ahead : List Forward)
    (kept_back : List Backward)
    → IsDirection Sender.ErrorStoppedAsked r freed held sent kept_ahead (Response ack ∷ kept_back)
    → (ack ≡ held % 32) × (distance (freed % 32) ack ≡ held - freed)
    × IsDirection SenderOk r held held (take held sent) kept_ahead kept_back
answered r freed held ack sent kept_ahead kept_back d =
    let alone = response_alone r freed held ack kept_ahead kept_back d.sender in
    let first = d.sent_first in
    let few = d.few in
    let long = length-take-le held sent first in (
      alone.0,
      distance_is freed held ack alone.0 d.held_first (omega arith),
      record {
        held_first = omega arith;
        sent_first = omega arith;
        few = omega arith;
        accepts = AcceptsInTurn-none held held kept_back alone.1;
        sender = (
          Lacks-request kept_ahead alone.2,
          Lacks-response kept_back alone.1,
          RetryOnce-none held kept_back (Lacks-retry kept_back alone.1),
          inl (Lacks-retry kept_back alone.1),
        );
        receiver = FitsReceiver-none r held (take held sent) kept_ahead alone.2;
      },
    )
