-- Which entry of the table of the output half a symbol meets. The rows and columns are those of
-- `hears`, in its order.
use Rattle.std.specs.Prelude.{ℕ, ◌==◌, Bool, true, false, nat_le, length, List, [], ◌∷◌, Option, Some, None, if◌then◌else◌}
use Rattle.link_model.specs.Prelude.{Fields, hears_report, distance}
use Rattle.link_model.specs.Outstanding.{is_oldest}
use Rattle.link_model.specs.Output as out
use Rattle.link_model.specs.Output.{Stype0, stype0}
use Rattle.link_model.specs.Output.Stype0.{PacketAccepted, PacketRetry, PacketNotAccepted, LinkResponse, OtherStype0}
use Rattle.link_port.specs.Ports.{PortState}
use Rattle.link_port.specs.Steps.{acts_symbol}
use Rattle.link_entries.specs.declared.entry.HeardEntry.{HeardEntry}
use Rattle.link_entries.specs.declared.entry.HeardEntry.TheVariants as heard

-- packet-accepted while OK, by whether it is of the oldest packet
abbrev pub accepted_entry : Bool → HeardEntry
accepted_entry true = heard.Accepted
accepted_entry false = heard.AcceptedOther

-- packet-retry while OK
abbrev pub retried_entry : Bool → HeardEntry
retried_entry true = heard.Retried
retried_entry false = heard.RetriedOther

-- a link-response that was asked for, by whether its ackID can be expected
abbrev pub responded_entry : Bool → HeardEntry
responded_entry true = heard.ResponseExpected
responded_entry false = heard.ResponseUnexpected

-- a symbol with the ackID
abbrev pub heard_entry : Stype0 → out.Output → ℕ → HeardEntry
heard_entry PacketAccepted (out.Output.Ok w) ack = accepted_entry (is_oldest w ack)
heard_entry PacketAccepted (out.Output.RetryStopped w) ack = heard.AcceptedWhileRetryStopped
heard_entry PacketAccepted (out.Output.ErrorStopped asked w) ack = heard.AcceptedWhileErrorStopped
heard_entry PacketAccepted out.Output.Failed ack = heard.AnyWhileFailed
heard_entry PacketRetry (out.Output.Ok w) ack = retried_entry (is_oldest w ack)
heard_entry PacketRetry (out.Output.RetryStopped w) ack = heard.RetriedWhileRetryStopped
heard_entry PacketRetry (out.Output.ErrorStopped asked w) ack = heard.RetriedWhileErrorStopped
heard_entry PacketRetry out.Output.Failed ack = heard.AnyWhileFailed
heard_entry PacketNotAccepted (out.Output.Ok w) ack = heard.NotAccepted
heard_entry PacketNotAccepted (out.Output.RetryStopped w) ack = heard.NotAcceptedWhileRetryStopped
heard_entry PacketNotAccepted (out.Output.ErrorStopped asked w) ack =
    heard.NotAcceptedWhileErrorStopped
heard_entry PacketNotAccepted out.Output.Failed ack = heard.AnyWhileFailed
heard_entry LinkResponse (out.Output.Ok w) ack = heard.ResponseWhileOk
heard_entry LinkResponse (out.Output.RetryStopped w) ack = heard.ResponseWhileRetryStopped
heard_entry LinkResponse (out.Output.ErrorStopped false w) ack = heard.ResponseUnasked
heard_entry LinkResponse (out.Output.ErrorStopped true w) ack =
    responded_entry (nat_le (distance w.oldest ack) (length w.prios))
heard_entry LinkResponse out.Output.Failed ack = heard.AnyWhileFailed
heard_entry OtherStype0 (out.Output.Ok w) ack = heard.OtherWhileOk
heard_entry OtherStype0 (out.Output.RetryStopped w) ack = heard.OtherWhileRetryStopped
heard_entry OtherStype0 (out.Output.ErrorStopped asked w) ack = heard.OtherWhileErrorStopped
heard_entry OtherStype0 out.Output.Failed ack = heard.AnyWhileFailed

-- the entry that a symbol meets in a port, whose output half hears its buffer status first
abbrev pub symbol_heard_entry : PortState → Fields → HeardEntry
symbol_heard_entry port symbol =
    heard_entry (stype0 symbol.s0) (hears_report symbol port.output) symbol.p0

-- the point beside an entry, by the ackID, and whether packets are freed
abbrev pub point_beside : HeardEntry → ℕ → Bool → Option HeardEntry
point_beside heard.Accepted ack freed = if ack == 31 then Some heard.AcceptedLast else None
point_beside heard.ResponseExpected ack true = Some heard.ResponseFrees
point_beside _ _ _ = None

-- whether there are packets
abbrev pub any_freed : List (List ℕ) → Bool
any_freed [] = false
any_freed (packet ∷ packets) = true

-- the point beside the entry of a symbol in a port
abbrev pub symbol_heard_point : PortState → Fields → Option HeardEntry
symbol_heard_point port symbol =
    point_beside (symbol_heard_entry port symbol) symbol.p0
    (any_freed (acts_symbol port symbol).freed)
