-- For each entry a run of a port from its start that meets it.
use Rattle.std.specs.Prelude.{ℕ, zero, suc, Bool, true, false, List, [], ◌∷◌, ◌++◌, map, replicate}
use Rattle.rio_chars.specs.declared.chars.Char.TheVariants.{Data, Special, Invalid}
use Rattle.rio_symbols.specs.declared.stype1.TheConstants.{STOMP, LINK_REQUEST}
use Rattle.rio_packets.specs.declared.cause.Cause.TheVariants.{BadPacket}
use Rattle.link_model.specs.declared.event.Event.TheVariants.{Ctl, Pkt, Bad}
use Rattle.link_model.specs.Prelude.{Fields}
use Rattle.link_model.specs.ReadingSpelt.{symbol_chars_of}
use Rattle.link_model.specs.Symbols.{answer, status_with, packet_accepted, packet_retry, packet_not_accepted, link_response, status, start_of_packet, end_of_packet, restart_from_retry, link_request}
use Rattle.link_entries.specs.declared.entry.Entry.{Entry}
use Rattle.link_entries.specs.declared.entry.Entry.TheVariants.{Heard, Turn, TimeOut, Arrived, Read}
use Rattle.link_entries.specs.declared.entry.HeardEntry.{HeardEntry}
use Rattle.link_entries.specs.declared.entry.HeardEntry.TheVariants as heard
use Rattle.link_entries.specs.declared.entry.TurnEntry.{TurnEntry}
use Rattle.link_entries.specs.declared.entry.TurnEntry.TheVariants as turn
use Rattle.link_entries.specs.declared.entry.TimeOutEntry.{TimeOutEntry}
use Rattle.link_entries.specs.declared.entry.TimeOutEntry.TheVariants as time_out
use Rattle.link_entries.specs.declared.entry.ArrivedEntry.{ArrivedEntry}
use Rattle.link_entries.specs.declared.entry.ArrivedEntry.TheVariants as arrived
use Rattle.link_entries.specs.declared.entry.ReadEntry.{ReadEntry}
use Rattle.link_entries.specs.declared.entry.ReadEntry.TheVariants as read
use Rattle.link_entries.specs.Deeds.{Deed, CharComes, EventComes, TurnIsTaken, TimeOutFires, PacketIsPut, PacketIsGiven, Trial}

-- a packet of priority 0 or 1
abbrev pub plain_packet : ℕ → List ℕ
plain_packet zero = 0x00 ∷ 0x0f ∷ 0x02 ∷ 0x01 ∷ 0xde ∷ 0xb2 ∷ 0x00 ∷ 0x00 ∷ []
plain_packet (suc n) = 0x00 ∷ 0x4f ∷ 0x02 ∷ 0x01 ∷ 0xc3 ∷ 0x1f ∷ 0x00 ∷ 0x00 ∷ []

-- a data character, a special character, and the characters of a symbol
abbrev pub data_comes : ℕ → Deed
data_comes byte = CharComes (Data byte)

abbrev pub special_comes : ℕ → Deed
special_comes byte = CharComes (Special byte)

abbrev pub symbol_comes : Fields → List Deed
symbol_comes symbol = map CharComes (symbol_chars_of symbol)

-- a packet begins
abbrev pub packet_opened : List Deed
packet_opened = symbol_comes (start_of_packet 0 31)

-- a packet is put, and a turn is taken
abbrev pub put_and_turn : List Deed
put_and_turn = PacketIsPut (plain_packet 0) ∷ TurnIsTaken ∷ []

-- the output half in its states
abbrev pub out_retry_stopped : List Deed
out_retry_stopped = put_and_turn ++ EventComes (Ctl (packet_retry 0 31)) ∷ []

abbrev pub out_asked : List Deed
out_asked = TimeOutFires ∷ TurnIsTaken ∷ []

abbrev pub out_failed : List Deed
out_failed = TimeOutFires ∷ TurnIsTaken ∷ EventComes (Ctl (link_response 5 16)) ∷ []

-- the input half has no room for the second packet of priority 0
abbrev pub in_retry_stopped : List Deed
in_retry_stopped = EventComes (Pkt 0 (plain_packet 0)) ∷ EventComes (Pkt 1 (plain_packet 0)) ∷ []

-- something with each number below one
abbrev pub each_below : ℕ → (ℕ → List Deed) → List Deed
each_below zero of = []
each_below (suc n) of = each_below n of ++ of n

-- a symbol in the output half
abbrev pub heard_deeds : HeardEntry → List Deed
heard_deeds heard.Accepted = put_and_turn ++ EventComes (Ctl (packet_accepted 0 31)) ∷ []
heard_deeds heard.AcceptedOther = EventComes (Ctl (packet_accepted 0 31)) ∷ []
heard_deeds heard.Retried = out_retry_stopped
heard_deeds heard.RetriedOther = EventComes (Ctl (packet_retry 0 31)) ∷ []
heard_deeds heard.NotAccepted = EventComes (Ctl (packet_not_accepted 0 4)) ∷ []
heard_deeds heard.ResponseWhileOk = EventComes (Ctl (link_response 0 16)) ∷ []
heard_deeds heard.OtherWhileOk = EventComes (Ctl (status 0 31)) ∷ []
heard_deeds heard.AcceptedWhileRetryStopped =
    out_retry_stopped ++ EventComes (Ctl (packet_accepted 0 31)) ∷ []
heard_deeds heard.RetriedWhileRetryStopped =
    out_retry_stopped ++ EventComes (Ctl (packet_retry 0 31)) ∷ []
heard_deeds heard.NotAcceptedWhileRetryStopped =
    out_retry_stopped ++ EventComes (Ctl (packet_not_accepted 0 4)) ∷ []
heard_deeds heard.ResponseWhileRetryStopped =
    out_retry_stopped ++ EventComes (Ctl (link_response 0 16)) ∷ []
heard_deeds heard.OtherWhileRetryStopped =
    out_retry_stopped ++ EventComes (Ctl (status 0 31)) ∷ []
heard_deeds heard.AcceptedWhileErrorStopped =
    TimeOutFires ∷ EventComes (Ctl (packet_accepted 0 31)) ∷ []
heard_deeds heard.RetriedWhileErrorStopped =
    TimeOutFires ∷ EventComes (Ctl (packet_retry 0 31)) ∷ []
heard_deeds heard.NotAcceptedWhileErrorStopped =
    TimeOutFires ∷ EventComes (Ctl (packet_not_accepted 0 4)) ∷ []
heard_deeds heard.ResponseUnasked = TimeOutFires ∷ EventComes (Ctl (link_response 0 16)) ∷ []
heard_deeds heard.ResponseExpected = out_asked ++ EventComes (Ctl (link_response 0 16)) ∷ []
heard_deeds heard.ResponseUnexpected = out_failed
heard_deeds heard.OtherWhileErrorStopped = TimeOutFires ∷ EventComes (Ctl (answer 3 0 31)) ∷ []
heard_deeds heard.AnyWhileFailed = out_failed ++ EventComes (Ctl (status 0 31)) ∷ []
heard_deeds heard.AcceptedLast =
    each_below 32 (λ ack. put_and_turn ++ EventComes (Ctl (packet_accepted ack 31)) ∷ [])
heard_deeds heard.ResponseFrees =
    put_and_turn ++ (out_asked ++ EventComes (Ctl (link_response 1 16)) ∷ [])

-- a turn
abbrev pub turn_deeds : TurnEntry → List Deed
turn_deeds turn.PacketSent = put_and_turn
turn_deeds turn.RestartSent = out_retry_stopped ++ TurnIsTaken ∷ []
turn_deeds turn.RequestSent = out_asked
turn_deeds turn.NothingWaits = TurnIsTaken ∷ []
turn_deeds turn.WindowIsFull =
    each_below 16 (λ n. PacketIsPut (plain_packet 0) ∷ PacketIsPut (plain_packet 1) ∷ [])
    ++ replicate 32 TurnIsTaken
turn_deeds turn.WithoutCredit = EventComes (Ctl (status 0 3)) ∷ put_and_turn
turn_deeds turn.WithinCredit = EventComes (Ctl (status 0 4)) ∷ put_and_turn
turn_deeds turn.Overtakes =
    PacketIsPut (plain_packet 0) ∷ PacketIsPut (plain_packet 1) ∷ TurnIsTaken ∷ []
turn_deeds turn.StatusSent = TurnIsTaken ∷ []
turn_deeds turn.AskedBefore = out_asked ++ TurnIsTaken ∷ []
turn_deeds turn.TurnWhileFailed = out_failed ++ TurnIsTaken ∷ []

-- a time-out
abbrev pub time_out_deeds : TimeOutEntry → List Deed
time_out_deeds time_out.TimeOutWhileOk = put_and_turn ++ TimeOutFires ∷ []
time_out_deeds time_out.TimeOutWhileErrorStopped = out_asked ++ TimeOutFires ∷ []
time_out_deeds time_out.TimeOutWhileRetryStopped = out_retry_stopped ++ TimeOutFires ∷ []
time_out_deeds time_out.TimeOutWhileFailed = out_failed ++ TimeOutFires ∷ []
time_out_deeds time_out.NothingOutstanding = TimeOutFires ∷ []

-- what comes to the input half
abbrev pub arrived_deeds : ArrivedEntry → List Deed
arrived_deeds arrived.PacketTaken = EventComes (Pkt 0 (plain_packet 0)) ∷ []
arrived_deeds arrived.PacketWithoutRoom = in_retry_stopped
arrived_deeds arrived.PacketWithAnotherAck = EventComes (Pkt 1 (plain_packet 0)) ∷ []
arrived_deeds arrived.BadWhileOk = EventComes (Bad BadPacket) ∷ []
arrived_deeds arrived.RestartWhileOk = EventComes (Ctl (restart_from_retry 0 31)) ∷ []
arrived_deeds arrived.RequestWhileOk = EventComes (Ctl (link_request 0 31)) ∷ []
arrived_deeds arrived.PacketWhileRetryStopped =
    in_retry_stopped ++ EventComes (Pkt 1 (plain_packet 0)) ∷ []
arrived_deeds arrived.BadWhileRetryStopped = in_retry_stopped ++ EventComes (Bad BadPacket) ∷ []
arrived_deeds arrived.RestartWhileRetryStopped =
    in_retry_stopped ++ EventComes (Ctl (restart_from_retry 0 31)) ∷ []
arrived_deeds arrived.RequestWhileRetryStopped =
    in_retry_stopped ++ EventComes (Ctl (link_request 0 31)) ∷ []
arrived_deeds arrived.PacketWhileErrorStopped =
    EventComes (Bad BadPacket) ∷ EventComes (Pkt 0 (plain_packet 0)) ∷ []
arrived_deeds arrived.BadWhileErrorStopped =
    EventComes (Bad BadPacket) ∷ EventComes (Bad BadPacket) ∷ []
arrived_deeds arrived.RestartWhileErrorStopped =
    EventComes (Bad BadPacket) ∷ EventComes (Ctl (restart_from_retry 0 31)) ∷ []
arrived_deeds arrived.RequestWhileErrorStopped =
    EventComes (Bad BadPacket) ∷ EventComes (Ctl (link_request 0 31)) ∷ []
arrived_deeds arrived.AnotherStype1 = EventComes (Ctl (status 0 31)) ∷ []
arrived_deeds arrived.AnotherCmd = EventComes (Ctl (status_with 0 31 LINK_REQUEST 3)) ∷ []
arrived_deeds arrived.LastTaken =
    each_below 32 (λ ack. EventComes (Pkt ack (plain_packet 0)) ∷ PacketIsGiven 0 ∷ [])

-- a character
abbrev pub read_deeds : ReadEntry → List Deed
read_deeds read.NoSymbol =
    special_comes 0x1c ∷ data_comes 0x80 ∷ data_comes 0xff ∷ data_comes 0x0e ∷ []
read_deeds read.WrongDelimiter =
    special_comes 0x7c ∷ data_comes 0x80 ∷ data_comes 0xff ∷ data_comes 0x0f ∷ []
read_deeds read.DelimiterInSymbol = special_comes 0x1c ∷ special_comes 0x1c ∷ []
read_deeds read.IdleInSymbol = special_comes 0x1c ∷ special_comes 0xbc ∷ []
read_deeds read.StrayInSymbol = special_comes 0x1c ∷ CharComes Invalid ∷ []
read_deeds read.DataOutside = data_comes 0x00 ∷ []
read_deeds read.StrayOutside = CharComes Invalid ∷ []
read_deeds read.IdleInPacket = packet_opened ++ special_comes 0xbc ∷ []
read_deeds read.StrayInPacket = packet_opened ++ CharComes Invalid ∷ []
read_deeds read.TooLong = packet_opened ++ replicate 277 (data_comes 0x00)
read_deeds read.TooShort = packet_opened ++ symbol_comes (end_of_packet 0 31)
read_deeds read.BadCrc =
    packet_opened ++ (replicate 8 (data_comes 0x01) ++ symbol_comes (end_of_packet 0 31))
read_deeds read.EndedByNext = packet_opened ++ packet_opened
read_deeds read.StompInPacket = packet_opened ++ symbol_comes (status_with 0 31 STOMP 0)
read_deeds read.BrokenOff = packet_opened ++ symbol_comes (restart_from_retry 0 31)
read_deeds read.SymbolInPacket = packet_opened ++ symbol_comes (status 0 31)
read_deeds read.EndOutside = symbol_comes (end_of_packet 0 31)
read_deeds read.IdleOutside = special_comes 0xbc ∷ []
read_deeds read.Skipped = data_comes 0x00 ∷ data_comes 0x00 ∷ []
read_deeds read.SkippingEnds = data_comes 0x00 ∷ special_comes 0xbc ∷ []

-- any entry
abbrev pub deeds_of : Entry → List Deed
deeds_of (Heard entry) = heard_deeds entry
deeds_of (Turn entry) = turn_deeds entry
deeds_of (TimeOut entry) = time_out_deeds entry
deeds_of (Arrived entry) = arrived_deeds entry
deeds_of (Read entry) = read_deeds entry

-- a port of 4 buffers, which does not tell them but where that is what is tried
abbrev pub tells_in : Entry → Bool
tells_in (Turn turn.StatusSent) = true
tells_in _ = false

abbrev pub trial_of : Entry → Trial
trial_of it = record { tells = tells_in it; buffers = 4; deeds = deeds_of it }
