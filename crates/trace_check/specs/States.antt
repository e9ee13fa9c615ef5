-- What is reached behind lines of a trace, and what is answered of the next one.
use Rattle.std.specs.Prelude.{◌≡◌, ◌↔◌, ℕ, ◌<◌, Bool, IsTrue, List, [], ◌∷◌, Option, Some, None, if◌then◌else◌}
use Rattle.rio_chars.specs.declared.edit.Edit.{Edit}
use Rattle.fabric_script.specs.declared.ports.PortRef.{PortRef}
use Rattle.fabric_model.specs.Network.{Network, same_port}
use Rattle.fabric_model.specs.Steps.{Free, Hold, Linked}
use Rattle.fabric_trace.specs.Fold.{edit_of}
use Rattle.trace_lines.specs.Lines.{Begun, Ended, Fired, Got, Lacked, Sent, Signed, Stepped, TraceLine, Undetected}
use Rattle.fabric_trace.specs.Wires.{WireChars}
use Rattle.trace_check.specs.declared.state.Fault.{Fault as ReadFault}
use Rattle.trace_check.specs.declared.state.Fault.TheVariants as F
use Rattle.trace_check.specs.declared.state.State.{State}
use Rattle.trace_check.specs.Checks.{LineIsStep, SendMayBe, net_after, OnWires}
use Rattle.trace_check.specs.Lawful.{Fault, fault_number, NoSuchStep, NotAllowed, NotCome, NotThere, OffWire}
use Rattle.trace_check.specs.Networks.{AreKeptLinks, IsNetwork, IsStepOf}
use Rattle.trace_check.specs.Running.{frees_one, holds_one, MayFree, MayHold, new_run, run_after, KeepsRun, PortRun}
use Rattle.trace_check.specs.Tables.{IsIn, IsTable}
use Rattle.trace_check.specs.Wires.{told_wires}

-- so many nodes; the network; what is on the wires; and what each port has got
pub record ReachedState : Type 0 where
  pub nodes : ℕ
  pub net : Network
  pub wires : WireChars
  pub runs : PortRef → PortRun

-- before the first line
abbrev pub unreached : ℕ → Network → ReachedState
unreached nodes network =
    record { nodes = nodes; net = network; wires = λ p. []; runs = λ p. new_run }

-- after one more line, where the line behind it says whether a wire was too short
abbrev pub reached_after : ReachedState → TraceLine → Bool → ReachedState
reached_after r line short = record {
  nodes = r.nodes;
  net = net_after r.net (line ∷ []);
  wires = told_wires r.net.links r.wires line short;
  runs = λ p. run_after p (r.runs p) line;
}

-- The state is that of what is reached.
pub record IsReachedState (r : ReachedState) (state : State) : Type 0 where
  pub links : AreKeptLinks r.nodes r.net.links state.links
  pub network : IsNetwork r.nodes r.net state.network
  pub wires : IsTable r.nodes (λ p chars. chars ≡ r.wires p) state.wires.items
  pub runs : IsTable r.nodes (λ p hearing. KeepsRun (r.runs p) hearing) state.hearings.items

-- ---- holds and frees

-- one port's run becomes another
abbrev pub with_run : ReachedState → PortRef → (PortRun → PortRun) → ReachedState
with_run r p after = record r { runs = λ q. if same_port q p then after (r.runs q) else r.runs q }

-- whether the port may hold the packet, which it then holds
abbrev pub ChecksHold : ReachedState → PortRef → List ℕ → State → Bool → Type 0
ChecksHold r q packet state came = (IsTrue came ↔ MayHold (r.runs q) packet)
    × (IsTrue came → IsReachedState (with_run r q (λ run. holds_one run packet)) state)

-- whether the port may free a packet, which it then frees
abbrev pub ChecksFree : ReachedState → PortRef → State → Bool → Type 0
ChecksFree r p state allowed = (IsTrue allowed ↔ MayFree (r.runs p))
    × (IsTrue allowed → IsReachedState (with_run r p frees_one) state)

-- ---- what a line asks of what is reached

abbrev pub HoldMayBe : (PortRef → PortRun) → TraceLine → Type 0
HoldMayBe runs (Stepped (Linked (Hold q packet))) = MayHold (runs q) packet
HoldMayBe runs _ = Unit {0}

abbrev pub FreeMayBe : (PortRef → PortRun) → TraceLine → Type 0
FreeMayBe runs (Stepped (Linked (Free p packet))) = MayFree (runs p)
FreeMayBe runs _ = Unit {0}

-- this fault does not hit the line
abbrev pub SparesAt : ReachedState → TraceLine → Bool → Fault → Type 0
SparesAt r line short OffWire = OnWires r.net.links r.wires line short
SparesAt r line short NoSuchStep = LineIsStep r.net line
SparesAt r line short NotCome = HoldMayBe r.runs line
SparesAt r line short NotAllowed = FreeMayBe r.runs line
SparesAt r line short NotThere = SendMayBe r.net line

-- the ports and the nodes of a line are ports and nodes of so many nodes

abbrev pub IsEditIn : ℕ → Option (PortRef × Edit) → Type 0
IsEditIn nodes None = Unit {0}
IsEditIn nodes (Some edit) = IsIn nodes edit.0

abbrev pub IsLineIn : ℕ → TraceLine → Type 0
IsLineIn nodes (Begun line) = IsEditIn nodes (edit_of line)
IsLineIn nodes (Stepped step) = IsStepOf nodes step
IsLineIn nodes (Signed (Sent p chars)) = IsIn nodes p
IsLineIn nodes (Signed (Got q chars)) = IsIn nodes q
IsLineIn nodes (Signed (Fired p)) = IsIn nodes p
IsLineIn nodes (Lacked lack) = Unit {0}
IsLineIn nodes Ended = Unit {0}
IsLineIn nodes (Undetected number q e) = Unit {0}

-- ---- what is answered

abbrev pub fault_of : ReadFault → Fault
fault_of F.OffWire = OffWire
fault_of F.NoStep = NoSuchStep
fault_of F.NotCome = NotCome
fault_of F.NotAllowed = NotAllowed
fault_of F.NotThere = NotThere

-- no fault exactly if none hits, and else the least that does
abbrev pub IsLeast : (Fault → Type 0) → Option ReadFault → Type 0
IsLeast Stands None = (fault : Fault) → Stands fault
IsLeast Stands (Some fault) = (Stands (fault_of fault) → ⊥)
    × ((other : Fault) → fault_number other < fault_number (fault_of fault) → Stands other)

-- What is answered of a line; and where none hits it, what is reached behind it.
pub record Checks (r : ReachedState) (line : TraceLine) (short : Bool) (state : State)
    (fault : Option ReadFault) : Type 0 where
  pub answer : IsLeast (SparesAt r line short) fault
  pub reached : fault ≡ None → IsReachedState (reached_after r line short) state
