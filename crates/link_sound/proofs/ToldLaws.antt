-- What each step of a port tells of its free buffers, and what it keeps of what it was told.
use Rattle.link_sound.proofs.Prelude.{◌≡◌, ℕ, ◌-◌, ◌≤◌, ◌==◌, nat_lt, Bool, true, false, Option, Some, None, All, List, [], ◌∷◌, refl, lt-ltb, slice_get, arith, if◌then◌else◌, All-nil, All-cons, Fields, number_of, prio_of, Input, receives, symbol_arrival, packet_arrival, Sends, untold, status, start_of_packet, end_of_packet, Arrival, InputOk, InputRetryStopped, InputErrorStopped, ExpectedWithRoom, ExpectedWithoutRoom, UnexpectedAck, Damaged, RestartFromRetry, LinkRequest, OtherStype1, has_buffer_status, Buffered, packet_count, room_for, stored, list_at, port_turn, reply_sent, TellsAs}
use Rattle.link_port.specs.Prelude.{Event, Ctl, Pkt, Bad, PortState, IsPort, standing, buffer_status, expected_of, acts, burst_of, packet_burst, turn_sends, tell_sends, waiting_in}
use Rattle.link_port.specs.Turns as turn

-- the buffer status of a port is a number of buffers exactly if it tells
pub status_tells : (tells : Bool) (store : Buffered) → store.buffers ≤ 30
    → nat_lt (buffer_status tells store) untold ≡ tells
status_tells true store few =
    lt-ltb (store.buffers - packet_count store.lists) 31 (omega (arith, few))
status_tells false store few = refl

port_tells : (port : PortState) → IsPort port
    → nat_lt (buffer_status port.tells port.received) untold ≡ port.tells
port_tells port is = status_tells port.tells port.received is.receives.most

-- what comes to a receiver has a buffer status of such a port, if it has one
abbrev ArrivalTells : Bool → Arrival → Type 0
ArrivalTells tells (ExpectedWithRoom buffers) = nat_lt buffers untold ≡ tells
ArrivalTells tells (ExpectedWithoutRoom buffers) = nat_lt buffers untold ≡ tells
ArrivalTells tells _ = Unit {0}

none_told : (tells : Bool) → All (TellsAs tells) []
none_told tells = All-nil (TellsAs tells)

one_told : (tells : Bool) (symbol : Fields) → TellsAs tells (Ctl symbol)
    → All (TellsAs tells) (Ctl symbol ∷ [])
one_told tells symbol is = All-cons (TellsAs tells) (Ctl symbol) [] is (none_told tells)

-- a symbol without a buffer status
no_status : (tells : Bool) (symbol : Fields) → has_buffer_status symbol.s0 ≡ false
    → All (TellsAs tells) (Ctl symbol ∷ [])
no_status tells symbol none = one_told tells symbol (λ has. absurd cc)

reply_told : (tells : Bool) (what : Arrival) (input : Input) → ArrivalTells tells what
    → All (TellsAs tells) (reply_sent (receives what input).reply)
reply_told tells (ExpectedWithRoom buffers) (InputOk expected) is = one_told tells _ (λ _. is)
reply_told tells (ExpectedWithRoom buffers) (InputRetryStopped expected) is = none_told tells
reply_told tells (ExpectedWithRoom buffers) (InputErrorStopped expected) is = none_told tells
reply_told tells (ExpectedWithoutRoom buffers) (InputOk expected) is = one_told tells _ (λ _. is)
reply_told tells (ExpectedWithoutRoom buffers) (InputRetryStopped expected) is = none_told tells
reply_told tells (ExpectedWithoutRoom buffers) (InputErrorStopped expected) is = none_told tells
reply_told tells UnexpectedAck (InputOk expected) is = no_status tells _ refl
reply_told tells UnexpectedAck (InputRetryStopped expected) is = none_told tells
reply_told tells UnexpectedAck (InputErrorStopped expected) is = none_told tells
reply_told tells (Damaged cause) (InputOk expected) is = no_status tells _ refl
reply_told tells (Damaged cause) (InputRetryStopped expected) is = no_status tells _ refl
reply_told tells (Damaged cause) (InputErrorStopped expected) is = none_told tells
reply_told tells RestartFromRetry (InputOk expected) is = no_status tells _ refl
reply_told tells RestartFromRetry (InputRetryStopped expected) is = none_told tells
reply_told tells RestartFromRetry (InputErrorStopped expected) is = none_told tells
reply_told tells LinkRequest (InputOk expected) is = no_status tells _ refl
reply_told tells LinkRequest (InputRetryStopped expected) is = no_status tells _ refl
reply_told tells LinkRequest (InputErrorStopped expected) is = no_status tells _ refl
reply_told tells OtherStype1 (InputOk expected) is = none_told tells
reply_told tells OtherStype1 (InputRetryStopped expected) is = none_told tells
reply_told tells OtherStype1 (InputErrorStopped expected) is = none_told tells

two_ways : (tells first second : Bool) → ArrivalTells tells
    (if first then RestartFromRetry else (if second then LinkRequest else OtherStype1))
two_ways tells true second = tt
two_ways tells false true = tt
two_ways tells false false = tt

symbol_tells : (tells : Bool) (s1 cmd : ℕ) → ArrivalTells tells (symbol_arrival s1 cmd)
symbol_tells tells s1 cmd = two_ways tells _ _

three_ways : (tells same room : Bool) (buffers : ℕ) → nat_lt buffers untold ≡ tells
    → ArrivalTells tells (if same
    then (if room then ExpectedWithRoom buffers else ExpectedWithoutRoom buffers)
    else UnexpectedAck)
three_ways tells true true buffers is = is
three_ways tells true false buffers is = is
three_ways tells false room buffers is = tt

stored_buffers : (room : Bool) (store : Buffered) (packet : List ℕ) → store.buffers ≤ 30
    → (stored room store packet).buffers ≤ 30
stored_buffers true store packet few = few
stored_buffers false store packet few = few

packet_tells :
    (tells : Bool) (store : Buffered) (expected ack : ℕ) (packet : List ℕ) (room : Bool)
    → store.buffers ≤ 30
    → ArrivalTells tells
    (packet_arrival expected ack room (buffer_status tells (stored room store packet)))
packet_tells tells store expected ack packet room few =
    three_ways tells (ack == expected) room _
    (status_tells tells (stored room store packet) (stored_buffers room store packet few))

-- what a port answers tells as the port does
pub acts_told : (port : PortState) (e : Event) → IsPort port
    → All (TellsAs port.tells) (reply_sent (acts port e).reply)
acts_told port (Ctl symbol) is =
    reply_told port.tells (symbol_arrival symbol.s1 symbol.cmd) port.input
    (symbol_tells port.tells symbol.s1 symbol.cmd)
acts_told port (Pkt ack packet) is =
    let room = room_for port.received (prio_of packet) in
    reply_told port.tells
    (packet_arrival (expected_of port.input) ack room
    (buffer_status port.tells (stored room port.received packet))) port.input
    (packet_tells port.tells port.received (expected_of port.input) ack packet room
    is.receives.most)
acts_told port (Bad cause) is = reply_told port.tells (Damaged (number_of cause)) port.input tt

packet_told : (port : PortState) (ack : ℕ) (packet : Option (List ℕ)) → IsPort port
    → All (TellsAs port.tells) (packet_burst (standing port) ack packet).sent
packet_told port ack None is = none_told port.tells
packet_told port ack (Some packet) is =
    let tells = port_tells port is in
    let first = start_of_packet (standing port).expected (standing port).buffers in
    let last = end_of_packet (standing port).expected (standing port).buffers in
    All-cons (TellsAs port.tells) (Ctl first) (Pkt ack packet ∷ Ctl last ∷ []) (λ _. tells)
    (All-cons (TellsAs port.tells) (Pkt ack packet) (Ctl last ∷ []) tt
    (one_told port.tells last (λ _. tells)))

burst_told : (port : PortState) (sends : Sends) (waiting : List (List (List ℕ))) → IsPort port
    → All (TellsAs port.tells) (burst_of sends (standing port) waiting).sent
burst_told port (Sends.Packet ack prio) waiting is =
    packet_told port ack (slice_get (list_at waiting prio) 0) is
burst_told port Sends.Restart waiting is = one_told port.tells _ (λ _. port_tells port is)
burst_told port Sends.Request waiting is = one_told port.tells _ (λ _. port_tells port is)
burst_told port Sends.Status waiting is = one_told port.tells _ (λ _. port_tells port is)
burst_told port Sends.Nothing waiting is = none_told port.tells

-- what a turn sends tells as the port does
pub turn_told : (port : PortState) → IsPort port → All (TellsAs port.tells) (turn_sends port).sent
turn_told port is = burst_told port (port_turn port).sends (waiting_in port) is

telling_told : (port : PortState) (does : Bool) → IsPort port
    → All (TellsAs port.tells) (if does
    then turn.symbol_burst (status (standing port).expected (standing port).buffers)
    else turn.no_burst).sent
telling_told port true is = one_told port.tells _ (λ _. port_tells port is)
telling_told port false is = none_told port.tells

-- and so does what it sends to tell once more
pub tell_told : (port : PortState) → IsPort port → All (TellsAs port.tells) (tell_sends port).sent
tell_told port is = telling_told port port.tells is
