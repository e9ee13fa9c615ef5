-- What events and the states of a port mean for a direction (RapidIO Interconnect Specification
-- 1.3, Part 6, control symbols): packets and stype1 of a symbol go to the receiver, stype0 goes
-- back to the sender.
use Rattle.std.specs.Prelude.{ℕ, true, false, Option, Some, None, List, [], ◌∷◌}
use Rattle.rio_symbols.specs.Fields.{Fields}
use Rattle.link_port.specs.Prelude.{Event, Ctl, Pkt, Bad}
use Rattle.link_model.specs.Input as in_half
use Rattle.link_model.specs.Output as out
use Rattle.link_sound.specs.Marks.{Forward, ForwardPacket, ForwardRestart, ForwardRequest, Other, Backward, Accept, Retry, Response, Neutral}
use Rattle.link_sound.specs.Sender.{Sender, SenderOk, SenderRetryStopped, SenderErrorStopped, SenderFailed}
use Rattle.link_sound.specs.Receiver.{Receiver, ReceiverOk, ReceiverRetryStopped, ReceiverErrorStopped}

abbrev pub asks : in_half.Arrival → Forward
asks (in_half.Arrival.ExpectedWithRoom buffers) = Other
asks (in_half.Arrival.ExpectedWithoutRoom buffers) = Other
asks in_half.Arrival.UnexpectedAck = Other
asks (in_half.Arrival.Damaged cause) = Other
asks in_half.Arrival.RestartFromRetry = ForwardRestart
asks in_half.Arrival.LinkRequest = ForwardRequest
asks in_half.Arrival.OtherStype1 = Other

abbrev pub tells : out.Stype0 → ℕ → Backward
tells out.Stype0.PacketAccepted ack = Accept ack
tells out.Stype0.PacketRetry ack = Retry ack
tells out.Stype0.PacketNotAccepted ack = Neutral
tells out.Stype0.LinkResponse ack = Response ack
tells out.Stype0.OtherStype0 ack = Neutral

-- what an event means on its way to the receiver
abbrev pub forward : Event → Forward
forward (Ctl symbol) = asks (in_half.symbol_arrival symbol.s1 symbol.cmd)
forward (Pkt ack packet) = ForwardPacket ack packet
forward (Bad cause) = Other

-- what an event means on its way back to the sender
abbrev pub backward : Event → Backward
backward (Ctl symbol) = tells (out.stype0 symbol.s0) symbol.p0
backward (Pkt ack packet) = Neutral
backward (Bad cause) = Neutral

abbrev pub sender_of : out.Output → Sender
sender_of (out.Output.Ok w) = SenderOk
sender_of (out.Output.RetryStopped w) = SenderRetryStopped
sender_of (out.Output.ErrorStopped false w) = SenderErrorStopped
sender_of (out.Output.ErrorStopped true w) = Sender.ErrorStoppedAsked
sender_of out.Output.Failed = SenderFailed

abbrev pub receiver_of : in_half.Input → Receiver
receiver_of (in_half.InputOk expected) = ReceiverOk
receiver_of (in_half.InputRetryStopped expected) = ReceiverRetryStopped
receiver_of (in_half.InputErrorStopped expected) = ReceiverErrorStopped

-- the ackID of the oldest packet that is not acknowledged; a sender that has failed knows of none
abbrev pub oldest_of : out.Output → ℕ
oldest_of (out.Output.Ok w) = w.oldest
oldest_of (out.Output.RetryStopped w) = w.oldest
oldest_of (out.Output.ErrorStopped asked w) = w.oldest
oldest_of out.Output.Failed = 0

-- what a reply means, on its way to the receiver and on its way back to the sender
abbrev pub reply_forward : Option Fields → List Forward
reply_forward None = []
reply_forward (Some symbol) = forward (Ctl symbol) ∷ []

abbrev pub reply_backward : Option Fields → List Backward
reply_backward None = []
reply_backward (Some symbol) = backward (Ctl symbol) ∷ []
