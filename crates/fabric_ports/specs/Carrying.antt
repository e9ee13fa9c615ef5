-- What the links of a fabric do in a round of an ask.
use Rattle.std.specs.Prelude.{◌≡◌, List, Some, Result, Ok, Err, map}
use Rattle.rio_chars.specs.declared.edit.Edit.{Edit}
use Rattle.fabric_script.specs.declared.ports.PortRef.{PortRef}
use Rattle.fabric_model.specs.Network.{link_in}
use Rattle.fabric_trace.specs.Blocks.{pumps}
use Rattle.fabric_trace.specs.Known.{Seen}
use Rattle.trace_lines.specs.Lines.{TraceLine}
use Rattle.fabric_trace.specs.Rounds.{Joined}
use Rattle.fabric_ask.specs.Noise.{edit_lines, stirred, IsCarry}
use Rattle.fabric_ask.specs.Asks.{CarryAll}
use Rattle.fabric_ports.specs.Ran.{Kind}
use Rattle.fabric_ports.specs.Showing.{ends_of}
use Rattle.fabric_ports.specs.Standing.{Stands}
use Rattle.fabric_ports.specs.declared.answers.FabricEnd.{FabricEnd}
use Rattle.fabric_ports.specs.declared.fabric.Fabric.{Fabric}

-- the fabric stands for some lines, and these are the ends of a link of it, the first end first
pub record AreLinked (fabric : Fabric) (ends : PortRef × PortRef) : Type 0 where
  pub from : Seen
  pub lines : List TraceLine
  pub stands : Stands from lines fabric
  pub found : link_in (map ends_of fabric.cables.items) ends.0 ≡ Some ends

-- lines of a kind, whichever edits are left behind them
abbrev pub WithLeft : (List Edit → Kind) → Kind
WithLeft Is s lines = (left : List Edit) × Is left s lines

-- these edits, or whichever if the call did not come to its end
abbrev pub LeftBy : {T : Type 0} → Result T FabricEnd → (List Edit → Kind) → List Edit → Kind
LeftBy (Ok answer) Is left = Is left
LeftBy (Err end) Is left = WithLeft Is

-- a port takes a turn, whose peer is the other
abbrev pub Turns : PortRef → PortRef → Kind
Turns p q s lines = lines ≡ pumps s p 1 q

-- both ports take one
abbrev pub BothTurn : PortRef × PortRef → Kind
BothTurn ends s lines = Joined (Turns ends.0 ends.1 s) (Turns ends.1 ends.0) s lines

-- an edit of the wire of a port
abbrev pub Edits : PortRef → Edit → Kind
Edits p edit s lines = lines ≡ edit_lines p edit (s.wires p).chars

-- the wire of a port gets the next edit; the edits that are given, and those that are left
abbrev pub Stirs : PortRef → List Edit → List Edit → Kind
Stirs p noise left s lines = (lines, left) ≡ stirred noise p (s.wires p).chars

-- both wires of a link do
abbrev pub BothStir : PortRef × PortRef → List Edit → List Edit → Kind
BothStir ends noise left s lines = (mid : List Edit)
    × Joined (Stirs ends.0 noise mid s) (Stirs ends.1 mid left) s lines

-- a link carries what it can
abbrev pub LinkCarries : PortRef × PortRef → List Edit → List Edit → Kind
LinkCarries ends noise left s lines = IsCarry noise left s ends.0 ends.1 lines

-- every link does, in the order of the links
abbrev pub LinksCarry : List Edit → List Edit → Kind
LinksCarry noise left s lines = CarryAll s.network.links noise left s lines
