-- What a state of the table knows.
use Rattle.std.specs.Prelude.{None}
use Rattle.link_model.specs.Prelude.{Output, Outstanding, from_ack}

-- the outstanding packets; a sender that has failed knows of none
abbrev pub outstanding_of : Output → Outstanding
outstanding_of (Output.Ok w) = w
outstanding_of (Output.RetryStopped w) = w
outstanding_of (Output.ErrorStopped asked w) = w
outstanding_of Output.Failed = from_ack 0 None
