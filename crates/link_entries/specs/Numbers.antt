-- The number of each entry. The first 43 are those of the tables of a port, in their order.
use Rattle.std.specs.Prelude.{ℕ, List, [], ◌∷◌}
use Rattle.link_entries.specs.declared.entry.Entry.{Entry}
use Rattle.link_entries.specs.declared.entry.Entry.TheVariants.{Heard, Turn, TimeOut, Arrived, Read}
use Rattle.link_entries.specs.declared.entry.HeardEntry.{HeardEntry}
use Rattle.link_entries.specs.declared.entry.HeardEntry.TheVariants as heard
use Rattle.link_entries.specs.declared.entry.TurnEntry.{TurnEntry}
use Rattle.link_entries.specs.declared.entry.TurnEntry.TheVariants as turn
use Rattle.link_entries.specs.declared.entry.TimeOutEntry.{TimeOutEntry}
use Rattle.link_entries.specs.declared.entry.TimeOutEntry.TheVariants as time_out
use Rattle.link_entries.specs.declared.entry.ArrivedEntry.{ArrivedEntry}
use Rattle.link_entries.specs.declared.entry.ArrivedEntry.TheVariants as arrived
use Rattle.link_entries.specs.declared.entry.ReadEntry.{ReadEntry}
use Rattle.link_entries.specs.declared.entry.ReadEntry.TheVariants as read

-- a symbol in the output half
abbrev pub heard_number : HeardEntry → ℕ
heard_number heard.Accepted = 0
heard_number heard.AcceptedOther = 1
heard_number heard.Retried = 2
heard_number heard.RetriedOther = 3
heard_number heard.NotAccepted = 4
heard_number heard.ResponseWhileOk = 5
heard_number heard.OtherWhileOk = 6
heard_number heard.AcceptedWhileRetryStopped = 7
heard_number heard.RetriedWhileRetryStopped = 8
heard_number heard.NotAcceptedWhileRetryStopped = 9
heard_number heard.ResponseWhileRetryStopped = 10
heard_number heard.OtherWhileRetryStopped = 11
heard_number heard.AcceptedWhileErrorStopped = 12
heard_number heard.RetriedWhileErrorStopped = 13
heard_number heard.NotAcceptedWhileErrorStopped = 14
heard_number heard.ResponseUnasked = 15
heard_number heard.ResponseExpected = 16
heard_number heard.ResponseUnexpected = 17
heard_number heard.OtherWhileErrorStopped = 18
heard_number heard.AnyWhileFailed = 19
heard_number heard.AcceptedLast = 51
heard_number heard.ResponseFrees = 52

-- a turn
abbrev pub turn_number : TurnEntry → ℕ
turn_number turn.PacketSent = 20
turn_number turn.RestartSent = 21
turn_number turn.RequestSent = 22
turn_number turn.NothingWaits = 43
turn_number turn.WindowIsFull = 44
turn_number turn.WithoutCredit = 45
turn_number turn.WithinCredit = 46
turn_number turn.Overtakes = 47
turn_number turn.StatusSent = 48
turn_number turn.AskedBefore = 49
turn_number turn.TurnWhileFailed = 50

-- a time-out
abbrev pub time_out_number : TimeOutEntry → ℕ
time_out_number time_out.TimeOutWhileOk = 23
time_out_number time_out.TimeOutWhileErrorStopped = 24
time_out_number time_out.TimeOutWhileRetryStopped = 25
time_out_number time_out.TimeOutWhileFailed = 26
time_out_number time_out.NothingOutstanding = 53

-- what comes to the input half
abbrev pub arrived_number : ArrivedEntry → ℕ
arrived_number arrived.PacketTaken = 27
arrived_number arrived.PacketWithoutRoom = 28
arrived_number arrived.PacketWithAnotherAck = 29
arrived_number arrived.BadWhileOk = 30
arrived_number arrived.RestartWhileOk = 31
arrived_number arrived.RequestWhileOk = 32
arrived_number arrived.PacketWhileRetryStopped = 33
arrived_number arrived.BadWhileRetryStopped = 34
arrived_number arrived.RestartWhileRetryStopped = 35
arrived_number arrived.RequestWhileRetryStopped = 36
arrived_number arrived.PacketWhileErrorStopped = 37
arrived_number arrived.BadWhileErrorStopped = 38
arrived_number arrived.RestartWhileErrorStopped = 39
arrived_number arrived.RequestWhileErrorStopped = 40
arrived_number arrived.AnotherStype1 = 41
arrived_number arrived.AnotherCmd = 42
arrived_number arrived.LastTaken = 54

-- a character
abbrev pub read_number : ReadEntry → ℕ
read_number read.NoSymbol = 55
read_number read.WrongDelimiter = 56
read_number read.DelimiterInSymbol = 57
read_number read.IdleInSymbol = 58
read_number read.StrayInSymbol = 59
read_number read.DataOutside = 60
read_number read.StrayOutside = 61
read_number read.IdleInPacket = 62
read_number read.StrayInPacket = 63
read_number read.TooLong = 64
read_number read.TooShort = 65
read_number read.BadCrc = 66
read_number read.EndedByNext = 67
read_number read.StompInPacket = 68
read_number read.BrokenOff = 69
read_number read.SymbolInPacket = 70
read_number read.EndOutside = 71
read_number read.IdleOutside = 72
read_number read.Skipped = 73
read_number read.SkippingEnds = 74

-- any entry
abbrev pub entry_number : Entry → ℕ
entry_number (Heard entry) = heard_number entry
entry_number (Turn entry) = turn_number entry
entry_number (TimeOut entry) = time_out_number entry
entry_number (Arrived entry) = arrived_number entry
entry_number (Read entry) = read_number entry

-- all entries, in the order of their numbers
abbrev pub all_entries : List Entry
all_entries =
    Heard heard.Accepted ∷ Heard heard.AcceptedOther ∷ Heard heard.Retried ∷
    Heard heard.RetriedOther ∷ Heard heard.NotAccepted ∷ Heard heard.ResponseWhileOk ∷
    Heard heard.OtherWhileOk ∷ Heard heard.AcceptedWhileRetryStopped ∷
    Heard heard.RetriedWhileRetryStopped ∷ Heard heard.NotAcceptedWhileRetryStopped ∷
    Heard heard.ResponseWhileRetryStopped ∷ Heard heard.OtherWhileRetryStopped ∷
    Heard heard.AcceptedWhileErrorStopped ∷ Heard heard.RetriedWhileErrorStopped ∷
    Heard heard.NotAcceptedWhileErrorStopped ∷ Heard heard.ResponseUnasked ∷
    Heard heard.ResponseExpected ∷ Heard heard.ResponseUnexpected ∷
    Heard heard.OtherWhileErrorStopped ∷ Heard heard.AnyWhileFailed ∷ Turn turn.PacketSent ∷
    Turn turn.RestartSent ∷ Turn turn.RequestSent ∷ TimeOut time_out.TimeOutWhileOk ∷
    TimeOut time_out.TimeOutWhileErrorStopped ∷ TimeOut time_out.TimeOutWhileRetryStopped ∷
    TimeOut time_out.TimeOutWhileFailed ∷ Arrived arrived.PacketTaken ∷
    Arrived arrived.PacketWithoutRoom ∷ Arrived arrived.PacketWithAnotherAck ∷
    Arrived arrived.BadWhileOk ∷ Arrived arrived.RestartWhileOk ∷ Arrived arrived.RequestWhileOk ∷
    Arrived arrived.PacketWhileRetryStopped ∷ Arrived arrived.BadWhileRetryStopped ∷
    Arrived arrived.RestartWhileRetryStopped ∷ Arrived arrived.RequestWhileRetryStopped ∷
    Arrived arrived.PacketWhileErrorStopped ∷ Arrived arrived.BadWhileErrorStopped ∷
    Arrived arrived.RestartWhileErrorStopped ∷ Arrived arrived.RequestWhileErrorStopped ∷
    Arrived arrived.AnotherStype1 ∷ Arrived arrived.AnotherCmd ∷ Turn turn.NothingWaits ∷
    Turn turn.WindowIsFull ∷ Turn turn.WithoutCredit ∷ Turn turn.WithinCredit ∷
    Turn turn.Overtakes ∷ Turn turn.StatusSent ∷ Turn turn.AskedBefore ∷
    Turn turn.TurnWhileFailed ∷ Heard heard.AcceptedLast ∷ Heard heard.ResponseFrees ∷
    TimeOut time_out.NothingOutstanding ∷ Arrived arrived.LastTaken ∷ Read read.NoSymbol ∷
    Read read.WrongDelimiter ∷ Read read.DelimiterInSymbol ∷ Read read.IdleInSymbol ∷
    Read read.StrayInSymbol ∷ Read read.DataOutside ∷ Read read.StrayOutside ∷
    Read read.IdleInPacket ∷ Read read.StrayInPacket ∷ Read read.TooLong ∷ Read read.TooShort ∷
    Read read.BadCrc ∷ Read read.EndedByNext ∷ Read read.StompInPacket ∷ Read read.BrokenOff ∷
    Read read.SymbolInPacket ∷ Read read.EndOutside ∷ Read read.IdleOutside ∷ Read read.Skipped ∷
    Read read.SkippingEnds ∷ []
