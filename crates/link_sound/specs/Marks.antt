-- What events mean for one direction of a link, from the sender at its one end to the receiver at
-- the other. The sender's events go forward, those of the port of the receiver come back.
use Rattle.std.specs.Prelude.{ℕ, Bool, true, false, List}

-- an event on its way from the sender to the receiver
pub data Forward : Type 0 where
  -- a packet with its ackID
  ForwardPacket : ℕ → List ℕ → Forward
  -- restart-from-retry
  ForwardRestart : Forward
  -- link-request input-status
  ForwardRequest : Forward
  -- it means nothing for this direction
  Other : Forward

-- an event on its way back; each but the last has an ackID
pub data Backward : Type 0 where
  -- packet-accepted
  Accept : ℕ → Backward
  -- packet-retry
  Retry : ℕ → Backward
  -- link-response
  Response : ℕ → Backward
  -- it means nothing for this direction, or is a packet-not-accepted, which asks nothing of what is
  -- on its way
  Neutral : Backward

abbrev pub is_packet : Forward → Bool
is_packet (ForwardPacket ack packet) = true
is_packet ForwardRestart = false
is_packet ForwardRequest = false
is_packet Other = false

abbrev pub is_restart : Forward → Bool
is_restart (ForwardPacket ack packet) = false
is_restart ForwardRestart = true
is_restart ForwardRequest = false
is_restart Other = false

abbrev pub is_forward_request : Forward → Bool
is_forward_request (ForwardPacket ack packet) = false
is_forward_request ForwardRestart = false
is_forward_request ForwardRequest = true
is_forward_request Other = false

-- whether it means anything for this direction
abbrev pub is_forward : Forward → Bool
is_forward (ForwardPacket ack packet) = true
is_forward ForwardRestart = true
is_forward ForwardRequest = true
is_forward Other = false

abbrev pub is_retry : Backward → Bool
is_retry (Accept ack) = false
is_retry (Retry ack) = true
is_retry (Response ack) = false
is_retry Neutral = false

abbrev pub is_response : Backward → Bool
is_response (Accept ack) = false
is_response (Retry ack) = false
is_response (Response ack) = true
is_response Neutral = false

abbrev pub is_backward : Backward → Bool
is_backward (Accept ack) = true
is_backward (Retry ack) = true
is_backward (Response ack) = true
is_backward Neutral = false
