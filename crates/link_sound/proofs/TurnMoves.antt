-- What turns of the sender and time-outs do to a direction.
use Rattle.link_sound.proofs.Prelude.{ℕ, ◌+◌, ◌%◌, ◌<◌, ◌≤◌, List, [], ◌∷◌, ◌++◌, length, take, inl, inr, refl, arith, length-append, length-take-le, window, Forward, ForwardPacket, ForwardRestart, ForwardRequest, is_restart, is_forward_request, Backward, Sender, SenderOk, SenderRetryStopped, SenderErrorStopped, SenderFailed, Receiver, ReceiverOk, ReceiverRetryStopped, ReceiverErrorStopped, FitsSender, FitsReceiver, IsDirection}
use Rattle.link_sound.proofs.KeptLaws.{Lacks-append, PacketsInTurn-append, PacketsInTurn-start, RetryOnce-none, RestartOnce-append, RestartOnce-start, RestartOnce-restart, RequestLast-request, ResponseLast-none}

FitsSender-start :
    (r : Receiver) (freed held ack : ℕ) (packet : List ℕ) (kept_ahead : List Forward)
    (kept_back : List Backward)
    → FitsSender SenderOk r freed held kept_ahead kept_back
    → FitsSender SenderOk r freed held (kept_ahead ++ ForwardPacket ack packet ∷ []) kept_back
FitsSender-start r freed held ack packet kept_ahead kept_back (asks, answers, once, inl none) = (
  Lacks-append is_forward_request kept_ahead (ForwardPacket ack packet) asks refl,
  answers,
  once,
  inl none,
)
FitsSender-start r freed held ack packet kept_ahead kept_back
    (asks, answers, once, inr (shut, none)) = (
      Lacks-append is_forward_request kept_ahead (ForwardPacket ack packet) asks refl,
      answers,
      once,
      inr (shut, Lacks-append is_restart kept_ahead (ForwardPacket ack packet) none refl),
    )

FitsReceiver-start :
    (r : Receiver) (held : ℕ) (sent : List (List ℕ)) (packet : List ℕ) (kept_ahead : List Forward)
    → held ≤ length sent → FitsReceiver r held sent kept_ahead
    → FitsReceiver r held (sent ++ packet ∷ [])
    (kept_ahead ++ ForwardPacket (length sent % 32) packet ∷ [])
FitsReceiver-start ReceiverOk held sent packet kept_ahead below (none, flight) = (
  Lacks-append is_restart kept_ahead (ForwardPacket (length sent % 32) packet) none refl,
  PacketsInTurn-start sent held kept_ahead packet below flight,
)
FitsReceiver-start ReceiverRetryStopped held sent packet kept_ahead below once =
    RestartOnce-start sent held kept_ahead packet below once
FitsReceiver-start ReceiverErrorStopped held sent packet kept_ahead below any = tt

pub packet_started :
    (r : Receiver) (freed held : ℕ) (sent : List (List ℕ)) (packet : List ℕ)
    (kept_ahead : List Forward) (kept_back : List Backward) → length sent < freed + window
    → IsDirection SenderOk r freed held sent kept_ahead kept_back
    → IsDirection SenderOk r freed held (sent ++ packet ∷ [])
    (kept_ahead ++ ForwardPacket (length sent % 32) packet ∷ []) kept_back
packet_started r freed held sent packet kept_ahead kept_back room d =
    let long = length-append sent (packet ∷ []) in
    let below = d.sent_first in
    record {
      held_first = d.held_first;
      sent_first = omega arith;
      few = omega arith;
      accepts = d.accepts;
      sender =
          FitsSender-start r freed held (length sent % 32) packet kept_ahead kept_back d.sender;
      receiver = FitsReceiver-start r held sent packet kept_ahead below d.receiver;
    }

FitsReceiver-restart :
    (r : Receiver) (freed held : ℕ) (sent : List (List ℕ)) (kept_ahead : List Forward)
    (kept_back : List Backward) → FitsSender SenderRetryStopped r freed held kept_ahead kept_back
    → FitsReceiver r held (take freed sent) (kept_ahead ++ ForwardRestart ∷ [])
FitsReceiver-restart ReceiverOk freed held sent kept_ahead kept_back
    (same, shut, asks, starts, retries, answers) =
    absurd shut
FitsReceiver-restart ReceiverRetryStopped freed held sent kept_ahead kept_back
    (same, shut, asks, starts, retries, answers) =
    RestartOnce-restart (take freed sent) held kept_ahead starts
FitsReceiver-restart ReceiverErrorStopped freed held sent kept_ahead kept_back
    (same, shut, asks, starts, retries, answers) =
    tt

FitsSender-restart :
    (r : Receiver) (freed held : ℕ) (kept_ahead : List Forward) (kept_back : List Backward)
    → FitsSender SenderRetryStopped r freed held kept_ahead kept_back
    → FitsSender SenderOk r freed held (kept_ahead ++ ForwardRestart ∷ []) kept_back
FitsSender-restart r freed held kept_ahead kept_back
    (same, shut, asks, starts, retries, answers) = (
      Lacks-append is_forward_request kept_ahead ForwardRestart asks refl,
      answers,
      RetryOnce-none held kept_back retries,
      inl retries,
    )

pub restarted :
    (r : Receiver) (freed held : ℕ) (sent : List (List ℕ)) (kept_ahead : List Forward)
    (kept_back : List Backward)
    → IsDirection SenderRetryStopped r freed held sent kept_ahead kept_back
    → IsDirection SenderOk r freed held (take freed sent) (kept_ahead ++ ForwardRestart ∷ [])
    kept_back
restarted r freed held sent kept_ahead kept_back d =
    let same = d.sender.0 in
    let below = d.sent_first in
    let long = length-take-le freed sent (omega arith) in
    record {
      held_first = d.held_first;
      sent_first = omega arith;
      few = omega arith;
      accepts = d.accepts;
      sender = FitsSender-restart r freed held kept_ahead kept_back d.sender;
      receiver = FitsReceiver-restart r freed held sent kept_ahead kept_back d.sender;
    }

FitsReceiver-request : (r : Receiver) (held : ℕ) (sent : List (List ℕ)) (kept_ahead : List Forward)
    → FitsReceiver r held sent kept_ahead
    → FitsReceiver r held sent (kept_ahead ++ ForwardRequest ∷ [])
FitsReceiver-request ReceiverOk held sent kept_ahead (none, flight) = (
  Lacks-append is_restart kept_ahead ForwardRequest none refl,
  PacketsInTurn-append sent held kept_ahead ForwardRequest refl flight,
)
FitsReceiver-request ReceiverRetryStopped held sent kept_ahead once =
    RestartOnce-append sent held kept_ahead ForwardRequest refl refl once
FitsReceiver-request ReceiverErrorStopped held sent kept_ahead any = tt

pub requested :
    (r : Receiver) (freed held : ℕ) (sent : List (List ℕ)) (kept_ahead : List Forward)
    (kept_back : List Backward)
    → IsDirection SenderErrorStopped r freed held sent kept_ahead kept_back
    → IsDirection Sender.ErrorStoppedAsked r freed held sent (kept_ahead ++ ForwardRequest ∷ [])
    kept_back
requested r freed held sent kept_ahead kept_back d = record {
  held_first = d.held_first;
  sent_first = d.sent_first;
  few = d.few;
  accepts = d.accepts;
  sender = (
    RequestLast-request kept_ahead d.sender.0,
    ResponseLast-none held kept_back d.sender.1,
    inl d.sender.1,
  );
  receiver = FitsReceiver-request r held sent kept_ahead d.receiver;
}

FitsSender-emptied :
    (s : Sender) (r : Receiver) (freed held : ℕ) (kept_ahead : List Forward)
    (kept_back : List Backward) → FitsSender s r freed held kept_ahead kept_back
    → FitsSender s r freed held [] []
FitsSender-emptied SenderOk r freed held kept_ahead kept_back d = (tt, tt, tt, inl tt)
FitsSender-emptied SenderRetryStopped r freed held kept_ahead kept_back
    (same, shut, asks, starts, retries, answers) =
    (same, shut, tt, tt, tt, tt)
FitsSender-emptied SenderErrorStopped r freed held kept_ahead kept_back d = (tt, tt)
FitsSender-emptied Sender.ErrorStoppedAsked r freed held kept_ahead kept_back d = (tt, tt, inl tt)
FitsSender-emptied SenderFailed r freed held kept_ahead kept_back never = never

FitsReceiver-emptied : (r : Receiver) (held : ℕ) (sent : List (List ℕ))
    → FitsReceiver r held sent []
FitsReceiver-emptied ReceiverOk held sent = (tt, tt)
FitsReceiver-emptied ReceiverRetryStopped held sent = tt
FitsReceiver-emptied ReceiverErrorStopped held sent = tt

pub emptied :
    (s : Sender) (r : Receiver) (freed held : ℕ) (sent : List (List ℕ)) (kept_ahead : List Forward)
    (kept_back : List Backward) → IsDirection s r freed held sent kept_ahead kept_back
    → IsDirection s r freed held sent [] []
emptied s r freed held sent kept_ahead kept_back d = record {
  held_first = d.held_first;
  sent_first = d.sent_first;
  few = d.few;
  accepts = tt;
  sender = FitsSender-emptied s r freed held kept_ahead kept_back d.sender;
  receiver = FitsReceiver-emptied r held sent;
}

-- the sender after a time-out
abbrev pub late : Sender → Sender
late SenderOk = SenderErrorStopped
late SenderRetryStopped = SenderRetryStopped
late SenderErrorStopped = SenderErrorStopped
late Sender.ErrorStoppedAsked = SenderErrorStopped
late SenderFailed = SenderFailed

FitsSender-late :
    (s : Sender) (r : Receiver) (freed held : ℕ) → FitsSender s r freed held [] []
    → FitsSender (late s) r freed held [] []
FitsSender-late SenderOk r freed held d = (tt, tt)
FitsSender-late SenderRetryStopped r freed held d = d
FitsSender-late SenderErrorStopped r freed held d = (tt, tt)
FitsSender-late Sender.ErrorStoppedAsked r freed held d = (tt, tt)
FitsSender-late SenderFailed r freed held never = never

pub time_is_out :
    (s : Sender) (r : Receiver) (freed held : ℕ) (sent : List (List ℕ)) (kept_ahead : List Forward)
    (kept_back : List Backward) → IsDirection s r freed held sent kept_ahead kept_back
    → IsDirection (late s) r freed held sent [] []
time_is_out s r freed held sent kept_ahead kept_back d = record {
  held_first = d.held_first;
  sent_first = d.sent_first;
  few = d.few;
  accepts = tt;
  sender =
      FitsSender-late s r freed held
      (FitsSender-emptied s r freed held kept_ahead kept_back d.sender);
  receiver = FitsReceiver-emptied r held sent;
}
