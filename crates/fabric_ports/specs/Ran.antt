-- What a call of a fabric did behind lines for which it stood: which lines it told, and how far
-- they were written.
use Rattle.std.specs.Prelude.{◌≡◌, ℕ, true, List, [], ◌++◌, Some, Result, Ok, Err}
use Rattle.fabric_script.specs.declared.lines.Line.{Line}
use Rattle.fabric_trace.specs.Blocks.{IsBlock, IsSettle}
use Rattle.fabric_trace.specs.Fold.{seen}
use Rattle.fabric_trace.specs.Known.{Seen}
use Rattle.trace_lines.specs.Lines.{TraceLine}
use Rattle.fabric_trace.specs.Rounds.{SettleAll, ServesAll, ServeNodes}
use Rattle.trace_lines.specs.Writing.{Adds}
use Rattle.trace_lines.specs.declared.writer.TraceWriter.{TraceWriter}
use Rattle.fabric_ports.specs.declared.answers.FabricEnd.{FabricEnd}
use Rattle.fabric_ports.specs.declared.answers.FabricEnd.TheVariants.{Undetected, Failed, NoMemory}
use Rattle.fabric_ports.specs.declared.fabric.Fabric.{Fabric}
use Rattle.fabric_ports.specs.Standing.{Stands}

-- what is said of lines, by what is known before them
abbrev pub Kind : Type 1
Kind = Seen → List TraceLine → Type 0

-- the lines of an event, behind the line with which it begins
abbrev pub Blocks : Line → Kind
Blocks line s block = IsBlock s line block

-- every link settles, in the order of the links
abbrev pub LinksSettle : Kind
LinksSettle s lines = SettleAll IsSettle s.network.links s lines

-- a switch makes steps until no packet of it can go
abbrev pub Serves : ℕ → Kind
Serves node s lines = ServesAll s node lines

-- so does every switch, in the order of the devices
abbrev pub SwitchesServe : Kind
SwitchesServe s lines = ServeNodes 0 s.network.registers s lines

-- a front of some lines was added
pub record AddsFront {K : Type 0} (old new : TraceWriter K) (lines : List TraceLine) : Type 0 where
  pub front : List TraceLine
  pub rest : List TraceLine
  pub adds : Adds old new front
  pub whole : lines ≡ front ++ rest

-- How far lines were written that were told behind others, by how the call ended: all of them, and
-- the fabric stands for those before with these; all of them, up to an event that was acted on and
-- not sent, which is this one; or a front. The outbox has failed if the call ended for that.
abbrev pub WritesTo : {K : Type 0} → TraceWriter K → TraceWriter K → Seen → List TraceLine
    → List TraceLine → Result Fabric FabricEnd → Type 0
WritesTo old new from lines told (Ok fabric) =
    Adds old new told × Stands from (lines ++ told) fabric
WritesTo old new from lines told (Err (Undetected port event)) =
    Adds old new told
    × ((seen from (lines ++ told)).undetected ≡ Some (record { port = port; event = event }))
WritesTo old new from lines told (Err Failed) =
    AddsFront old new told × (new.outbox.now.failed ≡ true)
WritesTo old new from lines told (Err NoMemory) = AddsFront old new told

-- Behind these lines a call told its first lines, and lines of a kind behind them.
pub record RanBehind (first : List TraceLine) (Is : Kind) {K : Type 0} (old new : TraceWriter K)
    (from : Seen) (lines : List TraceLine) (end : Result Fabric FabricEnd) : Type 0 where
  pub block : List TraceLine
  pub is : Is (seen from lines) block
  pub ends : WritesTo old new from lines (first ++ block) end

-- it told no lines but those of the kind
abbrev pub Ran : Kind → {K : Type 0} → TraceWriter K → TraceWriter K → Seen → List TraceLine
    → Result Fabric FabricEnd → Type 0
Ran Is old new from lines end = RanBehind [] Is old new from lines end

-- behind whatever lines a fabric stood for before
abbrev pub FabricRan : Kind → Fabric → {K : Type 0} → TraceWriter K → TraceWriter K
    → Result Fabric FabricEnd → Type 0
FabricRan Is fabric old new end = (from : Seen) (lines : List TraceLine)
    → Stands from lines fabric → Ran Is old new from lines end

-- how a call ended that left this fabric
abbrev pub end_with : {T : Type 0} → Fabric → Result T FabricEnd → Result Fabric FabricEnd
end_with fabric (Ok answer) = Ok fabric
end_with fabric (Err end) = Err end
