-- Each entry stands at its number in the list of all.
use Rattle.std.proofs.Common.{◌≡◌, Some, slice_get, refl}
use Rattle.link_entries.specs.declared.entry.Entry.{Entry}
use Rattle.link_entries.specs.declared.entry.Entry.TheVariants.{Heard, Turn, TimeOut, Arrived, Read}
use Rattle.link_entries.specs.declared.entry.HeardEntry.TheVariants as heard
use Rattle.link_entries.specs.declared.entry.TurnEntry.TheVariants as turn
use Rattle.link_entries.specs.declared.entry.TimeOutEntry.TheVariants as time_out
use Rattle.link_entries.specs.declared.entry.ArrivedEntry.TheVariants as arrived
use Rattle.link_entries.specs.declared.entry.ReadEntry.TheVariants as read
use Rattle.link_entries.specs.Numbers.{entry_number, all_entries}

pub entry_at : (entry : Entry) → slice_get all_entries (entry_number entry) ≡ Some entry
entry_at (Heard heard.Accepted) = refl
entry_at (Heard heard.AcceptedOther) = refl
entry_at (Heard heard.Retried) = refl
entry_at (Heard heard.RetriedOther) = refl
entry_at (Heard heard.NotAccepted) = refl
entry_at (Heard heard.ResponseWhileOk) = refl
entry_at (Heard heard.OtherWhileOk) = refl
entry_at (Heard heard.AcceptedWhileRetryStopped) = refl
entry_at (Heard heard.RetriedWhileRetryStopped) = refl
entry_at (Heard heard.NotAcceptedWhileRetryStopped) = refl
entry_at (Heard heard.ResponseWhileRetryStopped) = refl
entry_at (Heard heard.OtherWhileRetryStopped) = refl
entry_at (Heard heard.AcceptedWhileErrorStopped) = refl
entry_at (Heard heard.RetriedWhileErrorStopped) = refl
entry_at (Heard heard.NotAcceptedWhileErrorStopped) = refl
entry_at (Heard heard.ResponseUnasked) = refl
entry_at (Heard heard.ResponseExpected) = refl
entry_at (Heard heard.ResponseUnexpected) = refl
entry_at (Heard heard.OtherWhileErrorStopped) = refl
entry_at (Heard heard.AnyWhileFailed) = refl
entry_at (Turn turn.PacketSent) = refl
entry_at (Turn turn.RestartSent) = refl
entry_at (Turn turn.RequestSent) = refl
entry_at (TimeOut time_out.TimeOutWhileOk) = refl
entry_at (TimeOut time_out.TimeOutWhileErrorStopped) = refl
entry_at (TimeOut time_out.TimeOutWhileRetryStopped) = refl
entry_at (TimeOut time_out.TimeOutWhileFailed) = refl
entry_at (Arrived arrived.PacketTaken) = refl
entry_at (Arrived arrived.PacketWithoutRoom) = refl
entry_at (Arrived arrived.PacketWithAnotherAck) = refl
entry_at (Arrived arrived.BadWhileOk) = refl
entry_at (Arrived arrived.RestartWhileOk) = refl
entry_at (Arrived arrived.RequestWhileOk) = refl
entry_at (Arrived arrived.PacketWhileRetryStopped) = refl
entry_at (Arrived arrived.BadWhileRetryStopped) = refl
entry_at (Arrived arrived.RestartWhileRetryStopped) = refl
entry_at (Arrived arrived.RequestWhileRetryStopped) = refl
entry_at (Arrived arrived.PacketWhileErrorStopped) = refl
entry_at (Arrived arrived.BadWhileErrorStopped) = refl
entry_at (Arrived arrived.RestartWhileErrorStopped) = refl
entry_at (Arrived arrived.RequestWhileErrorStopped) = refl
entry_at (Arrived arrived.AnotherStype1) = refl
entry_at (Arrived arrived.AnotherCmd) = refl
entry_at (Turn turn.NothingWaits) = refl
entry_at (Turn turn.WindowIsFull) = refl
entry_at (Turn turn.WithoutCredit) = refl
entry_at (Turn turn.WithinCredit) = refl
entry_at (Turn turn.Overtakes) = refl
entry_at (Turn turn.StatusSent) = refl
entry_at (Turn turn.AskedBefore) = refl
entry_at (Turn turn.TurnWhileFailed) = refl
entry_at (Heard heard.AcceptedLast) = refl
entry_at (Heard heard.ResponseFrees) = refl
entry_at (TimeOut time_out.NothingOutstanding) = refl
entry_at (Arrived arrived.LastTaken) = refl
entry_at (Read read.NoSymbol) = refl
entry_at (Read read.WrongDelimiter) = refl
entry_at (Read read.DelimiterInSymbol) = refl
entry_at (Read read.IdleInSymbol) = refl
entry_at (Read read.StrayInSymbol) = refl
entry_at (Read read.DataOutside) = refl
entry_at (Read read.StrayOutside) = refl
entry_at (Read read.IdleInPacket) = refl
entry_at (Read read.StrayInPacket) = refl
entry_at (Read read.TooLong) = refl
entry_at (Read read.TooShort) = refl
entry_at (Read read.BadCrc) = refl
entry_at (Read read.EndedByNext) = refl
entry_at (Read read.StompInPacket) = refl
entry_at (Read read.BrokenOff) = refl
entry_at (Read read.SymbolInPacket) = refl
entry_at (Read read.EndOutside) = refl
entry_at (Read read.IdleOutside) = refl
entry_at (Read read.Skipped) = refl
entry_at (Read read.SkippingEnds) = refl
