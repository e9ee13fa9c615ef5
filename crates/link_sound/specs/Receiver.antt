-- The states of a receiver, as the input half of a port has them, without the ackID that it
-- expects.
pub data Receiver : Type 0 where
  -- input OK
  ReceiverOk : Receiver
  -- input retry-stopped: it asked for a packet again
  ReceiverRetryStopped : Receiver
  -- input error-stopped
  ReceiverErrorStopped : Receiver

-- it takes no packets
abbrev pub IsShut : Receiver → Type 0
IsShut ReceiverOk = ⊥
IsShut ReceiverRetryStopped = Unit {0}
IsShut ReceiverErrorStopped = Unit {0}
