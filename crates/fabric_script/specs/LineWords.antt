-- The line that a form and its values make.
use Rattle.std.specs.Prelude.{◌≡◌, ℕ, Bool, true, false, List, length}
use Rattle.fabric_script.specs.declared.forms.Form.{Form}
use Rattle.fabric_script.specs.declared.forms.Form.TheVariants as F
use Rattle.fabric_script.specs.declared.lines.Line.{Line}
use Rattle.fabric_script.specs.declared.lines.Line.TheVariants.{Endpoint, Switch, Link, Buffers, Route, Default, Lock, Large, Credits, Send, Read, Write, Send16, Read16, Write16, Pump, Deliver, Alter, Insert, Erase, Timeout, Settle, Move, Collect, Run}
use Rattle.fabric_script.specs.Texts.{Value}
use Rattle.fabric_script.specs.Values.{node_said, port_said, number_said, bytes_said, char_said}
use Rattle.fabric_script.specs.Known.{Known}

-- the nodes are numbered in the order of their lines
abbrev pub NodeIsNext : Known → Line → Type 0
NodeIsNext known (Endpoint name id) = name ≡ length known.names
NodeIsNext known (Switch name ports) = name ≡ length known.names
NodeIsNext known _ = Unit {0}

-- whether a line of the form is an event that gives a packet with 8-bit IDs, one with 16-bit IDs,
-- or none
abbrev pub gives_small : Form → Bool
gives_small F.Send = true
gives_small F.Read = true
gives_small F.Write = true
gives_small _ = false

abbrev pub gives_large : Form → Bool
gives_large F.Send16 = true
gives_large F.Read16 = true
gives_large F.Write16 = true
gives_large _ = false

abbrev pub gives_none : Form → Bool
gives_none F.Pump = true
gives_none F.Deliver = true
gives_none F.Alter = true
gives_none F.Insert = true
gives_none F.Erase = true
gives_none F.Timeout = true
gives_none F.Settle = true
gives_none F.Move = true
gives_none F.Collect = true
gives_none F.Run = true
gives_none _ = false

-- the line of a form whose words say this, where a new node has this number
abbrev pub line_saying : Form → ℕ → List Value → Line
line_saying F.Endpoint new vs = Endpoint new (number_said vs 1)
line_saying F.Switch new vs = Switch new (number_said vs 1)
line_saying F.Link new vs = Link (port_said vs 0) (port_said vs 1)
line_saying F.Buffers new vs = Buffers (port_said vs 0) (number_said vs 1)
line_saying F.Route new vs = Route (node_said vs 0) (number_said vs 1) (number_said vs 2)
line_saying F.Default new vs = Default (node_said vs 0) (number_said vs 1)
line_saying F.Lock new vs = Lock (node_said vs 0) (number_said vs 1)
line_saying F.Large new vs = Large (node_said vs 0) (number_said vs 1)
line_saying F.Credits new vs = Credits (port_said vs 0)
line_saying F.Send new vs =
    Send (node_said vs 0) (number_said vs 1) (number_said vs 2) (number_said vs 3) (bytes_said vs 4)
line_saying F.Read new vs =
    Read (node_said vs 0) (number_said vs 1) (number_said vs 2) (number_said vs 3) (number_said vs 4)
    (number_said vs 5)
line_saying F.Write new vs =
    Write (node_said vs 0) (number_said vs 1) (number_said vs 2) (number_said vs 3) (number_said vs 4)
    (number_said vs 5) (number_said vs 6)
line_saying F.Send16 new vs =
    Send16 (node_said vs 0) (number_said vs 1) (number_said vs 2) (number_said vs 3) (bytes_said vs 4)
line_saying F.Read16 new vs =
    Read16 (node_said vs 0) (number_said vs 1) (number_said vs 2) (number_said vs 3) (number_said vs 4)
    (number_said vs 5)
line_saying F.Write16 new vs =
    Write16 (node_said vs 0) (number_said vs 1) (number_said vs 2) (number_said vs 3) (number_said vs 4)
    (number_said vs 5) (number_said vs 6)
line_saying F.Pump new vs = Pump (port_said vs 0) (number_said vs 1)
line_saying F.Deliver new vs = Deliver (port_said vs 0) (number_said vs 1)
line_saying F.Alter new vs = Alter (port_said vs 0) (number_said vs 1) (char_said vs 2)
line_saying F.Insert new vs = Insert (port_said vs 0) (number_said vs 1) (char_said vs 2)
line_saying F.Erase new vs = Erase (port_said vs 0) (number_said vs 1) (number_said vs 2)
line_saying F.Timeout new vs = Timeout (port_said vs 0)
line_saying F.Settle new vs = Settle (port_said vs 0)
line_saying F.Move new vs = Move (node_said vs 0)
line_saying F.Collect new vs = Collect (node_said vs 0)
line_saying F.Run new vs = Run (number_said vs 0)
