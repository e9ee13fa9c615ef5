-- The symbols that a port sends have ackIDs of five bits.
use Rattle.link_sound.proofs.Prelude.{ℕ, ◌<◌, Bool, true, false, if◌then◌else◌, Option, Some, None, List, All, [], ◌∷◌, slice_get, All-nil, All-cons, Fields, Input, Arrival, number_of, receives, symbol_arrival, Damaged, Sends, status, start_of_packet, end_of_packet, ExpectedWithRoom, ExpectedWithoutRoom, UnexpectedAck, RestartFromRetry, LinkRequest, OtherStype1, InputOk, InputRetryStopped, InputErrorStopped, list_at, port_turn, reply_sent}
use Rattle.link_port.specs.Prelude.{Event, Ctl, Pkt, Bad, PortState, expected_of, acts, standing, burst_of, packet_burst, symbol_burst, no_burst, turn_sends, tell_sends, waiting_in}
pub use Rattle.link_sound.specs.InTime.{HasAck}

one_symbol : (symbol : Fields) → symbol.p0 < 32 → All HasAck (Ctl symbol ∷ [])
one_symbol symbol below = All-cons HasAck (Ctl symbol) [] below (All-nil HasAck)

packet_has : (p : PortState) (ack : ℕ) (packet : Option (List ℕ)) → expected_of p.input < 32
    → All HasAck (packet_burst (standing p) ack packet).sent
packet_has p ack None below = All-nil HasAck
packet_has p ack (Some packet) below =
    let at = standing p in
    let last : Event = Ctl (end_of_packet at.expected at.buffers) in
    All-cons HasAck (Ctl (start_of_packet at.expected at.buffers)) (Pkt ack packet ∷ last ∷ [])
    below
    (All-cons HasAck (Pkt ack packet) (last ∷ []) tt
    (All-cons HasAck last [] below (All-nil HasAck)))

burst_has : (sends : Sends) (p : PortState) (waiting : List (List (List ℕ)))
    → expected_of p.input < 32
    → All HasAck (burst_of sends (standing p) waiting).sent
burst_has (Sends.Packet ack prio) p waiting below =
    packet_has p ack (slice_get (list_at waiting prio) 0) below
burst_has Sends.Restart p waiting below = one_symbol _ below
burst_has Sends.Request p waiting below = one_symbol _ below
burst_has Sends.Status p waiting below = one_symbol _ below
burst_has Sends.Nothing p waiting below = All-nil HasAck

-- a turn
pub turn_has : (a : PortState) → expected_of a.input < 32 → All HasAck (turn_sends a).sent
turn_has a below = burst_has (port_turn a).sends a (waiting_in a) below

told_has : (tells : Bool) (p : PortState) → expected_of p.input < 32
    → All HasAck (if tells then symbol_burst (status (standing p).expected (standing p).buffers)
    else no_burst).sent
told_has true p below = one_symbol _ below
told_has false p below = All-nil HasAck

-- a port tells its free buffers
pub tell_has : (a : PortState) → expected_of a.input < 32 → All HasAck (tell_sends a).sent
tell_has a below = told_has a.tells a below

reply_has : (what : Arrival) (input : Input) → expected_of input < 32
    → All HasAck (reply_sent (receives what input).reply)
reply_has (ExpectedWithRoom buffers) (InputOk expected) below = one_symbol _ below
reply_has (ExpectedWithRoom buffers) (InputRetryStopped expected) below = All-nil HasAck
reply_has (ExpectedWithRoom buffers) (InputErrorStopped expected) below = All-nil HasAck
reply_has (ExpectedWithoutRoom buffers) (InputOk expected) below = one_symbol _ below
reply_has (ExpectedWithoutRoom buffers) (InputRetryStopped expected) below = All-nil HasAck
reply_has (ExpectedWithoutRoom buffers) (InputErrorStopped expected) below = All-nil HasAck
reply_has UnexpectedAck (InputOk expected) below = one_symbol _ below
reply_has UnexpectedAck (InputRetryStopped expected) below = All-nil HasAck
reply_has UnexpectedAck (InputErrorStopped expected) below = All-nil HasAck
reply_has (Damaged cause) (InputOk expected) below = one_symbol _ below
reply_has (Damaged cause) (InputRetryStopped expected) below = one_symbol _ below
reply_has (Damaged cause) (InputErrorStopped expected) below = All-nil HasAck
reply_has RestartFromRetry (InputOk expected) below = one_symbol _ below
reply_has RestartFromRetry (InputRetryStopped expected) below = All-nil HasAck
reply_has RestartFromRetry (InputErrorStopped expected) below = All-nil HasAck
reply_has LinkRequest (InputOk expected) below = one_symbol _ below
reply_has LinkRequest (InputRetryStopped expected) below = one_symbol _ below
reply_has LinkRequest (InputErrorStopped expected) below = one_symbol _ below
reply_has OtherStype1 (InputOk expected) below = All-nil HasAck
reply_has OtherStype1 (InputRetryStopped expected) below = All-nil HasAck
reply_has OtherStype1 (InputErrorStopped expected) below = All-nil HasAck

-- an event
pub event_has : (a : PortState) (e : Event) → expected_of a.input < 32
    → All HasAck (reply_sent (acts a e).reply)
event_has a (Ctl symbol) below = reply_has (symbol_arrival symbol.s1 symbol.cmd) a.input below
event_has a (Pkt ack packet) below = reply_has _ a.input below
event_has a (Bad cause) below = reply_has (Damaged (number_of cause)) a.input below
