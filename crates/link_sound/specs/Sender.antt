-- The states of a sender, as the output half of a port has them, without the packets that are
-- outstanding.

pub data Sender : Type 0 where
  -- output OK
  SenderOk : Sender
  -- output retry-stopped
  SenderRetryStopped : Sender
  -- output error-stopped, its link-request not sent yet
  SenderErrorStopped : Sender
  -- output error-stopped, its link-request sent
  ErrorStoppedAsked : Sender
  -- it has failed
  SenderFailed : Sender
