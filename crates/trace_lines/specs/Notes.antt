-- The lines of what is noted of a link.
use Rattle.std.specs.Prelude.{List, map}
use Rattle.link_watch.specs.declared.note.Note.{Note}
use Rattle.link_watch.specs.declared.note.Note.TheVariants as Notes
use Rattle.link_watch.specs.declared.side.Side.{Side}
use Rattle.link_watch.specs.declared.side.Side.TheVariants.{A, B}
use Rattle.fabric_script.specs.declared.ports.PortRef.{PortRef}
use Rattle.fabric_model.specs.Steps.{Hold, Free, Linked}
use Rattle.trace_lines.specs.Lines.{Sent, Got, Fired, TraceLine, Stepped, Signed}

-- the port at an end of a link
abbrev pub port_at_side : PortRef → PortRef → Side → PortRef
port_at_side a b A = a
port_at_side a b B = b

-- what is noted of a link, as a line: its ends are these two ports
abbrev pub line_of : PortRef → PortRef → Note → TraceLine
line_of a b (Notes.Sent side chars) = Signed (Sent (port_at_side a b side) chars)
line_of a b (Notes.Got side chars) = Signed (Got (port_at_side a b side) chars)
line_of a b (Notes.Hold side packet) = Stepped (Linked (Hold (port_at_side a b side) packet))
line_of a b (Notes.Free side packet) = Stepped (Linked (Free (port_at_side a b side) packet))
line_of a b (Notes.Fire side) = Signed (Fired (port_at_side a b side))

abbrev pub lines_of : PortRef → PortRef → List Note → List TraceLine
lines_of a b notes = map (line_of a b) notes
