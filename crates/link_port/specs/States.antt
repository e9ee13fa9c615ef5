-- What the states of the two halves of a port know.
use Rattle.std.specs.Prelude.{ℕ, ◌==◌, Bool, false, List, []}
use Rattle.link_model.specs.Outstanding.{IsOutstanding}
use Rattle.link_model.specs.Output as out
use Rattle.link_model.specs.Input as in_half

-- the priorities of the outstanding packets, in the order of their ackIDs; a sender that has failed
-- knows of none
abbrev pub prios_of : out.Output → List ℕ
prios_of (out.Output.Ok w) = w.prios
prios_of (out.Output.RetryStopped w) = w.prios
prios_of (out.Output.ErrorStopped asked w) = w.prios
prios_of out.Output.Failed = []

-- whether a link-request was sent since the error or the last time-out
abbrev pub has_asked : out.Output → Bool
has_asked (out.Output.Ok w) = false
has_asked (out.Output.RetryStopped w) = false
has_asked (out.Output.ErrorStopped asked w) = asked
has_asked out.Output.Failed = false

-- what is true of every output half
abbrev pub IsOutput : out.Output → Type 0
IsOutput (out.Output.Ok w) = IsOutstanding w
IsOutput (out.Output.RetryStopped w) = IsOutstanding w
IsOutput (out.Output.ErrorStopped asked w) = IsOutstanding w
IsOutput out.Output.Failed = Unit {0}

-- the next expected ackID
abbrev pub expected_of : in_half.Input → ℕ
expected_of (in_half.InputOk expected) = expected
expected_of (in_half.InputRetryStopped expected) = expected
expected_of (in_half.InputErrorStopped expected) = expected

-- whether packets are taken, and this ackID is the expected one
abbrev pub expects : in_half.Input → ℕ → Bool
expects (in_half.InputOk expected) ack = ack == expected
expects (in_half.InputRetryStopped expected) ack = false
expects (in_half.InputErrorStopped expected) ack = false
