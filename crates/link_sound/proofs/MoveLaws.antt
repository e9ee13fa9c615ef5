-- What each step of the sender or the receiver does to a direction.
use Rattle.link_sound.proofs.Prelude.{◌≡◌, ℕ, ◌+◌, ◌%◌, ◌<◌, ◌≤◌, List, [], ◌∷◌, ◌++◌, inl, inr, refl, arith, Forward, Other, is_restart, is_forward_request, is_forward, Backward, Neutral, is_retry, is_response, Sender, SenderOk, SenderRetryStopped, SenderErrorStopped, SenderFailed, Receiver, ReceiverOk, ReceiverRetryStopped, ReceiverErrorStopped, FitsSender, FitsReceiver, IsDirection}
use Rattle.link_sound.proofs.KeptLaws.{Lacks-lost, Lacks-append, AcceptsInTurn-lost, AcceptsInTurn-append, PacketsInTurn-lost, PacketsInTurn-append, RetryOnce-lost, RetryOnce-append, RestartOnce-lost, RestartOnce-append, RequestLast-lost, RequestLast-append, ResponseLast-lost, ResponseLast-append}

-- a number is told by its ackID among 32
pub same_number : (low n m : ℕ) → n % 32 ≡ m % 32 → low ≤ n → low ≤ m → n < low + 32 → m < low + 32
    → n ≡ m
same_number low n m same a b c d = omega arith

FitsSender-lost :
    (s : Sender) (r : Receiver) (freed held : ℕ) (lost kept_ahead : List Forward)
    (gone kept_back : List Backward)
    → FitsSender s r freed held (lost ++ kept_ahead) (gone ++ kept_back)
    → FitsSender s r freed held kept_ahead kept_back
FitsSender-lost SenderOk r freed held lost kept_ahead gone kept_back
    (asks, answers, once, inl none) = (
      Lacks-lost is_forward_request lost kept_ahead asks,
      Lacks-lost is_response gone kept_back answers,
      RetryOnce-lost held gone kept_back once,
      inl (Lacks-lost is_retry gone kept_back none),
    )
FitsSender-lost SenderOk r freed held lost kept_ahead gone kept_back
    (asks, answers, once, inr (shut, none)) = (
      Lacks-lost is_forward_request lost kept_ahead asks,
      Lacks-lost is_response gone kept_back answers,
      RetryOnce-lost held gone kept_back once,
      inr (shut, Lacks-lost is_restart lost kept_ahead none),
    )
FitsSender-lost SenderRetryStopped r freed held lost kept_ahead gone kept_back
    (same, shut, asks, starts, retries, answers) = (
      same,
      shut,
      Lacks-lost is_forward_request lost kept_ahead asks,
      Lacks-lost is_restart lost kept_ahead starts,
      Lacks-lost is_retry gone kept_back retries,
      Lacks-lost is_response gone kept_back answers,
    )
FitsSender-lost SenderErrorStopped r freed held lost kept_ahead gone kept_back (asks, answers) = (
  Lacks-lost is_forward_request lost kept_ahead asks,
  Lacks-lost is_response gone kept_back answers,
)
FitsSender-lost Sender.ErrorStoppedAsked r freed held lost kept_ahead gone kept_back
    (asks, answers, inl none) = (
      RequestLast-lost lost kept_ahead asks,
      ResponseLast-lost held gone kept_back answers,
      inl (Lacks-lost is_response gone kept_back none),
    )
FitsSender-lost Sender.ErrorStoppedAsked r freed held lost kept_ahead gone kept_back
    (asks, answers, inr none) = (
      RequestLast-lost lost kept_ahead asks,
      ResponseLast-lost held gone kept_back answers,
      inr (Lacks-lost is_forward lost kept_ahead none),
    )
FitsSender-lost SenderFailed r freed held lost kept_ahead gone kept_back never = never

FitsReceiver-lost : (r : Receiver) (held : ℕ) (sent : List (List ℕ))
    (lost kept_ahead : List Forward) → FitsReceiver r held sent (lost ++ kept_ahead)
    → FitsReceiver r held sent kept_ahead
FitsReceiver-lost ReceiverOk held sent lost kept_ahead (none, flight) = (
  Lacks-lost is_restart lost kept_ahead none,
  PacketsInTurn-lost sent held lost kept_ahead flight,
)
FitsReceiver-lost ReceiverRetryStopped held sent lost kept_ahead once =
    RestartOnce-lost sent held lost kept_ahead once
FitsReceiver-lost ReceiverErrorStopped held sent lost kept_ahead any = tt

pub lost_front :
    (s : Sender) (r : Receiver) (freed held : ℕ) (sent : List (List ℕ))
    (lost kept_ahead : List Forward) (gone kept_back : List Backward)
    → IsDirection s r freed held sent (lost ++ kept_ahead) (gone ++ kept_back)
    → IsDirection s r freed held sent kept_ahead kept_back
lost_front s r freed held sent lost kept_ahead gone kept_back d = record {
  held_first = d.held_first;
  sent_first = d.sent_first;
  few = d.few;
  accepts = AcceptsInTurn-lost freed held gone kept_back d.accepts;
  sender = FitsSender-lost s r freed held lost kept_ahead gone kept_back d.sender;
  receiver = FitsReceiver-lost r held sent lost kept_ahead d.receiver;
}

FitsSender-other :
    (s : Sender) (r : Receiver) (freed held : ℕ) (kept_ahead : List Forward)
    (kept_back : List Backward)
    → FitsSender s r freed held kept_ahead kept_back
    → FitsSender s r freed held (kept_ahead ++ Other ∷ []) kept_back
FitsSender-other SenderOk r freed held kept_ahead kept_back (asks, answers, once, inl none) =
    (Lacks-append is_forward_request kept_ahead Other asks refl, answers, once, inl none)
FitsSender-other SenderOk r freed held kept_ahead kept_back
    (asks, answers, once, inr (shut, none)) = (
      Lacks-append is_forward_request kept_ahead Other asks refl,
      answers,
      once,
      inr (shut, Lacks-append is_restart kept_ahead Other none refl),
    )
FitsSender-other SenderRetryStopped r freed held kept_ahead kept_back
    (same, shut, asks, starts, retries, answers) = (
      same,
      shut,
      Lacks-append is_forward_request kept_ahead Other asks refl,
      Lacks-append is_restart kept_ahead Other starts refl,
      retries,
      answers,
    )
FitsSender-other SenderErrorStopped r freed held kept_ahead kept_back (asks, answers) =
    (Lacks-append is_forward_request kept_ahead Other asks refl, answers)
FitsSender-other Sender.ErrorStoppedAsked r freed held kept_ahead kept_back
    (asks, answers, inl none) =
    (RequestLast-append kept_ahead asks, answers, inl none)
FitsSender-other Sender.ErrorStoppedAsked r freed held kept_ahead kept_back
    (asks, answers, inr none) = (
      RequestLast-append kept_ahead asks,
      answers,
      inr (Lacks-append is_forward kept_ahead Other none refl),
    )
FitsSender-other SenderFailed r freed held kept_ahead kept_back never = never

FitsReceiver-other : (r : Receiver) (held : ℕ) (sent : List (List ℕ)) (kept_ahead : List Forward)
    → FitsReceiver r held sent kept_ahead → FitsReceiver r held sent (kept_ahead ++ Other ∷ [])
FitsReceiver-other ReceiverOk held sent kept_ahead (none, flight) = (
  Lacks-append is_restart kept_ahead Other none refl,
  PacketsInTurn-append sent held kept_ahead Other refl flight,
)
FitsReceiver-other ReceiverRetryStopped held sent kept_ahead once =
    RestartOnce-append sent held kept_ahead Other refl refl once
FitsReceiver-other ReceiverErrorStopped held sent kept_ahead any = tt

pub other_sent :
    (s : Sender) (r : Receiver) (freed held : ℕ) (sent : List (List ℕ)) (kept_ahead : List Forward)
    (kept_back : List Backward)
    → IsDirection s r freed held sent kept_ahead kept_back
    → IsDirection s r freed held sent (kept_ahead ++ Other ∷ []) kept_back
other_sent s r freed held sent kept_ahead kept_back d = record {
  held_first = d.held_first;
  sent_first = d.sent_first;
  few = d.few;
  accepts = d.accepts;
  sender = FitsSender-other s r freed held kept_ahead kept_back d.sender;
  receiver = FitsReceiver-other r held sent kept_ahead d.receiver;
}

FitsSender-neutral :
    (s : Sender) (r : Receiver) (freed held : ℕ) (kept_ahead : List Forward)
    (kept_back : List Backward)
    → FitsSender s r freed held kept_ahead kept_back
    → FitsSender s r freed held kept_ahead (kept_back ++ Neutral ∷ [])
FitsSender-neutral SenderOk r freed held kept_ahead kept_back (asks, answers, once, inl none) = (
  asks,
  Lacks-append is_response kept_back Neutral answers refl,
  RetryOnce-append held kept_back Neutral refl once,
  inl (Lacks-append is_retry kept_back Neutral none refl),
)
FitsSender-neutral SenderOk r freed held kept_ahead kept_back (asks, answers, once, inr shut) = (
  asks,
  Lacks-append is_response kept_back Neutral answers refl,
  RetryOnce-append held kept_back Neutral refl once,
  inr shut,
)
FitsSender-neutral SenderRetryStopped r freed held kept_ahead kept_back
    (same, shut, asks, starts, retries, answers) = (
      same,
      shut,
      asks,
      starts,
      Lacks-append is_retry kept_back Neutral retries refl,
      Lacks-append is_response kept_back Neutral answers refl,
    )
FitsSender-neutral SenderErrorStopped r freed held kept_ahead kept_back (asks, answers) =
    (asks, Lacks-append is_response kept_back Neutral answers refl)
FitsSender-neutral Sender.ErrorStoppedAsked r freed held kept_ahead kept_back
    (asks, answers, inl none) = (
      asks,
      ResponseLast-append held kept_back answers,
      inl (Lacks-append is_response kept_back Neutral none refl),
    )
FitsSender-neutral Sender.ErrorStoppedAsked r freed held kept_ahead kept_back
    (asks, answers, inr none) =
    (asks, ResponseLast-append held kept_back answers, inr none)
FitsSender-neutral SenderFailed r freed held kept_ahead kept_back never = never

pub neutral_sent :
    (s : Sender) (r : Receiver) (freed held : ℕ) (sent : List (List ℕ)) (kept_ahead : List Forward)
    (kept_back : List Backward)
    → IsDirection s r freed held sent kept_ahead kept_back
    → IsDirection s r freed held sent kept_ahead (kept_back ++ Neutral ∷ [])
neutral_sent s r freed held sent kept_ahead kept_back d = record {
  held_first = d.held_first;
  sent_first = d.sent_first;
  few = d.few;
  accepts = AcceptsInTurn-append freed held kept_back Neutral refl d.accepts;
  sender = FitsSender-neutral s r freed held kept_ahead kept_back d.sender;
  receiver = d.receiver;
}
