-- What is on the wires, by the lines alone, and that what a port got stood there.
use Rattle.std.specs.Prelude.{◌≡◌, List, [], ◌∷◌, ◌++◌, length, drop, Option, Some, None, if◌then◌else◌}
use Rattle.rio_chars.specs.declared.chars.Char.{Char}
use Rattle.rio_chars.specs.declared.edit.Edit.{Edit}
use Rattle.fabric_script.specs.declared.ports.PortRef.{PortRef}
use Rattle.fabric_model.specs.Network.{same_port, peer_in}
use Rattle.trace_lines.specs.Lines.{Sign, Sent, Got, Fired, TraceLine, Begun, Signed}
use Rattle.fabric_trace.specs.Fold.{edit_of, changed}

-- the characters of each wire, named by the port that sends on it
abbrev pub WireChars : Type 0
WireChars = PortRef → List Char

abbrev pub with_chars : WireChars → PortRef → List Char → WireChars
with_chars wires p chars q = if same_port q p then chars else wires q

-- an edit of the script, where it fits
abbrev pub edited_chars : WireChars → Option (PortRef × Edit) → WireChars
edited_chars wires None = wires
edited_chars wires (Some edit) = with_chars wires edit.0 (changed edit.1 (wires edit.0))

-- characters are taken from the front of the peer's wire
abbrev pub taken_chars : WireChars → Option PortRef → List Char → WireChars
taken_chars wires None chars = wires
taken_chars wires (Some p) chars = with_chars wires p (drop (length chars) (wires p))

abbrev pub signed_chars : List (PortRef × PortRef) → WireChars → Sign → WireChars
signed_chars links wires (Sent p chars) = with_chars wires p (wires p ++ chars)
signed_chars links wires (Got q chars) = taken_chars wires (peer_in links q) chars
signed_chars links wires (Fired p) = wires

-- after one more line
abbrev pub on_wires : List (PortRef × PortRef) → WireChars → TraceLine → WireChars
on_wires links wires (Begun line) = edited_chars wires (edit_of line)
on_wires links wires (Signed sign) = signed_chars links wires sign
on_wires links wires _ = wires

-- the characters stand at the front of the peer's wire
pub record IsFrontOf (links : List (PortRef × PortRef)) (wires : WireChars) (q : PortRef)
    (chars : List Char) : Type 0 where
  pub peer : PortRef
  pub behind : List Char
  pub peer_is : peer_in links q ≡ Some peer
  pub stands : wires peer ≡ chars ++ behind

-- what a port got stood on its peer's wire
abbrev pub StoodThere : List (PortRef × PortRef) → WireChars → TraceLine → Type 0
StoodThere links wires (Signed (Got q chars)) = IsFrontOf links wires q chars
StoodThere links wires _ = Unit {0}

-- at each line, from these wires on
abbrev pub WireFold : List (PortRef × PortRef) → WireChars → List TraceLine → Type 0
WireFold links wires [] = Unit {0}
WireFold links wires (line ∷ lines) =
    StoodThere links wires line × WireFold links (on_wires links wires line) lines
