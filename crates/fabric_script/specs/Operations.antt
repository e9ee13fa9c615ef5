-- What a line asks of a fabric.
use Rattle.std.specs.Prelude.{◌≡◌, ◌<◌, Bool, true, false, Option, None, Some}
use Rattle.rio_chars.specs.declared.edit.Edit.{Edit}
use Rattle.rio_chars.specs.declared.edit.Edit.TheVariants as Edits
use Rattle.fabric_script.specs.declared.lines.Line.{Line}
use Rattle.fabric_script.specs.declared.lines.Line.TheVariants.{Pump, Deliver, Alter, Insert, Erase, Timeout, Settle, Move, Collect, Run}
use Rattle.fabric_script.specs.declared.operations.Action.{Action}
use Rattle.fabric_script.specs.declared.operations.Action.TheVariants as Does
use Rattle.fabric_script.specs.declared.operations.Operation.{Operation}
use Rattle.fabric_script.specs.declared.operations.Operation.TheVariants as Asks
use Rattle.fabric_script.specs.declared.ports.PortRef.{PortRef}
use Rattle.fabric_script.specs.GivenPackets.{line_giving}
use Rattle.fabric_script.specs.Lines.{is_event}

-- the line that asks this of the link of a port
abbrev pub line_for : PortRef → Action → Line
line_for port (Does.Pump turns) = Pump port turns
line_for port (Does.Deliver count) = Deliver port count
line_for port Does.TimeOut = Timeout port
line_for port Does.Settle = Settle port

-- the line that changes what a port has sent in this way
abbrev pub line_editing : PortRef → Edit → Line
line_editing port (Edits.Alter place ch) = Alter port place ch
line_editing port (Edits.Insert place ch) = Insert port place ch
line_editing port (Edits.Erase place count) = Erase port place count

-- The line asks for this: one that is no event sets the fabric up, and any other is the line that
-- asks for it. A small destination has 8 bits.
abbrev pub IsOperation : Line → Operation → Type 0
IsOperation line Asks.SetUp = is_event line ≡ false
IsOperation line (Asks.Give given) =
    (line ≡ line_giving given) × (given.large ≡ false → given.dest < 256)
IsOperation line (Asks.AtLink port action) = line ≡ line_for port action
IsOperation line (Asks.Edit port edit) = line ≡ line_editing port edit
IsOperation line (Asks.Move node) = line ≡ Move node
IsOperation line (Asks.Collect node) = line ≡ Collect node
IsOperation line (Asks.Run n) = line ≡ Run n

-- whether a line asks something of the link of a port
abbrev pub acts_at_link : Line → Bool
acts_at_link (Pump port n) = true
acts_at_link (Deliver port n) = true
acts_at_link (Timeout port) = true
acts_at_link (Settle port) = true
acts_at_link _ = false

-- the change that a line makes of the wire of a port
abbrev pub edit_of : Line → Option (PortRef × Edit)
edit_of (Alter port place ch) = Some (port, Edits.Alter place ch)
edit_of (Erase port place n) = Some (port, Edits.Erase place n)
edit_of (Insert port place ch) = Some (port, Edits.Insert place ch)
edit_of _ = None

-- whether a line changes what a port has sent
abbrev pub edits_wire : Line → Bool
edits_wire (Alter port place ch) = true
edits_wire (Insert port place ch) = true
edits_wire (Erase port place n) = true
edits_wire _ = false
