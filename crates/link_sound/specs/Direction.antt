-- One direction of a link, from a sender to a receiver: the sentence that each step of either port
-- keeps.
use Rattle.std.specs.Prelude.{◌≡◌, ◌⊎◌, ℕ, ◌+◌, ◌≤◌, List, length}
use Rattle.link_model.specs.Window.{window}
use Rattle.link_sound.specs.Marks.{Forward, is_restart, is_forward_request, is_forward, Backward, is_retry, is_response}
use Rattle.link_sound.specs.Sender.{Sender, SenderOk, SenderRetryStopped, SenderErrorStopped, SenderFailed}
use Rattle.link_sound.specs.Receiver.{Receiver, IsShut, ReceiverOk, ReceiverRetryStopped, ReceiverErrorStopped}
use Rattle.link_sound.specs.Kept.{Lacks, AcceptsInTurn, PacketsInTurn, RetryOnce, RestartOnce, RequestLast, ResponseLast}

-- what is on its way, by the state of the sender, where it has freed so many packets and the
-- receiver has held so many
abbrev pub FitsSender : Sender → Receiver → (freed held : ℕ) → List Forward → List Backward → Type 0
FitsSender SenderOk r freed held kept_ahead kept_back =
    Lacks is_forward_request kept_ahead × Lacks is_response kept_back × RetryOnce held kept_back
    × (Lacks is_retry kept_back ⊎ (IsShut r × Lacks is_restart kept_ahead))
FitsSender SenderRetryStopped r freed held kept_ahead kept_back =
    (held ≡ freed) × IsShut r × Lacks is_forward_request kept_ahead × Lacks is_restart kept_ahead
    × Lacks is_retry kept_back × Lacks is_response kept_back
FitsSender SenderErrorStopped r freed held kept_ahead kept_back =
    Lacks is_forward_request kept_ahead × Lacks is_response kept_back
FitsSender Sender.ErrorStoppedAsked r freed held kept_ahead kept_back =
    RequestLast kept_ahead × ResponseLast held kept_back
    × (Lacks is_response kept_back ⊎ Lacks is_forward kept_ahead)
FitsSender SenderFailed r freed held kept_ahead kept_back = ⊥

-- what is on its way, by the state of the receiver
abbrev pub FitsReceiver : Receiver → (held : ℕ) → List (List ℕ) → List Forward → Type 0
FitsReceiver ReceiverOk held sent kept_ahead =
    Lacks is_restart kept_ahead × PacketsInTurn sent held kept_ahead
FitsReceiver ReceiverRetryStopped held sent kept_ahead = RestartOnce sent held kept_ahead
FitsReceiver ReceiverErrorStopped held sent kept_ahead = Unit {0}

-- The sender has freed the first `freed` of the packets `sent`, the receiver has held the first
-- `held`, and the rest from `freed` on is outstanding. What went to be sent again is not in `sent`.
-- `kept_ahead` is on its way to the receiver, `kept_back` to the sender.
pub record IsDirection (s : Sender) (r : Receiver) (freed held : ℕ) (sent : List (List ℕ))
    (kept_ahead : List Forward) (kept_back : List Backward) : Type 0 where
  pub held_first : freed ≤ held
  pub sent_first : held ≤ length sent
  pub few : length sent ≤ freed + window
  pub accepts : AcceptsInTurn freed held kept_back
  pub sender : FitsSender s r freed held kept_ahead kept_back
  pub receiver : FitsReceiver r held sent kept_ahead
