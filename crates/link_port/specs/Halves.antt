-- The halves of a port as states of the tables.
use Rattle.link_model.specs.Output as out
use Rattle.link_model.specs.Input as in_half
use Rattle.link_port.specs.declared.output_half.Output.{Output}
use Rattle.link_port.specs.declared.output_half.Output.TheVariants as Sender
use Rattle.link_port.specs.declared.input_half.Input.{Input}
use Rattle.link_port.specs.declared.input_half.Input.TheVariants as Receiver
use Rattle.link_port.specs.declared.kinds.OutKind.{OutKind}
use Rattle.link_port.specs.declared.kinds.OutKind.TheVariants as OutKinds
use Rattle.link_port.specs.declared.kinds.InKind.{InKind}
use Rattle.link_port.specs.declared.kinds.InKind.TheVariants as InKinds

-- the state of the output half in its table
abbrev pub output_of : Output → out.Output
output_of (Sender.Ok w) = out.Output.Ok w
output_of (Sender.RetryStopped w) = out.Output.RetryStopped w
output_of (Sender.ErrorStopped s) = out.Output.ErrorStopped s.asked s.outstanding
output_of (Sender.Failed _) = out.Output.Failed

-- the state of the input half in its table
abbrev pub input_of : Input → in_half.Input
input_of (Receiver.Ok expected) = in_half.InputOk expected
input_of (Receiver.RetryStopped expected) = in_half.InputRetryStopped expected
input_of (Receiver.ErrorStopped expected) = in_half.InputErrorStopped expected

-- the name of a state of the output half
abbrev pub out_kind_of : out.Output → OutKind
out_kind_of (out.Output.Ok w) = OutKinds.Ok
out_kind_of (out.Output.RetryStopped w) = OutKinds.RetryStopped
out_kind_of (out.Output.ErrorStopped asked w) = OutKinds.ErrorStopped
out_kind_of out.Output.Failed = OutKinds.Failed

-- the name of a state of the input half
abbrev pub in_kind_of : in_half.Input → InKind
in_kind_of (in_half.InputOk expected) = InKinds.Ok
in_kind_of (in_half.InputRetryStopped expected) = InKinds.RetryStopped
in_kind_of (in_half.InputErrorStopped expected) = InKinds.ErrorStopped
