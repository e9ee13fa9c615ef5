-- What a host's asks over a fabric come to.
use Rattle.std.specs.Prelude.{◌≡◌, ◌≤◌, ℕ, false, List, [], ◌++◌, Option, Some, None, length}
use Rattle.std.specs.Io.KnownBytes.{Appends}
use Rattle.maint_registers.specs.Devices.{Registers, is_switch}
use Rattle.maint_packets.specs.declared.request.Request.{Request}
use Rattle.link_model.specs.declared.event.Event.{Event}
use Rattle.rio_chars.specs.declared.edit.Edit.{Edit}
use Rattle.fabric_script.specs.declared.ports.PortRef.{PortRef}
use Rattle.fabric_script.specs.declared.lines.Numbered.{Numbered}
use Rattle.fabric_script.specs.Scripts.{ScriptPasses}
use Rattle.fabric_map.specs.Topology.{Topology}
use Rattle.fabric_map.specs.Routes.{AllRegisters}
use Rattle.fabric_map.specs.Fitting.{Fits}
use Rattle.fabric_map.specs.Plain.{topology_of, registers_of}
use Rattle.fabric_model.specs.Network.{IsEndpoint}
use Rattle.host_enumerate.specs.Devised.{IsHost, devices_of, links_of}
use Rattle.fabric_trace.specs.Fold.{seen}
use Rattle.fabric_trace.specs.Known.{Seen}
use Rattle.trace_lines.specs.Lines.{TraceLine}
use Rattle.fabric_trace.specs.Parts.{Made}
use Rattle.fabric_trace.specs.Ready.{IsReady}
use Rattle.trace_lines.specs.Text.{trace_text}
use Rattle.fabric_ask.specs.Own.{with_own}
use Rattle.fabric_ask.specs.Quiet.{AreQuiet}
use Rattle.fabric_ports.specs.Asking.{CanAsk}
use Rattle.fabric_ports.specs.declared.fabric.Fabric.{Fabric}
use Rattle.fabric_maint.specs.Asked.{IsAskOf, Asked}
use Rattle.fabric_maint.specs.declared.maint.FabricMaint.{FabricMaint}

-- ---- of one value

-- the bytes of each name of the script
abbrev pub names_of : {N K : Type 0} → FabricMaint N K → List (List ℕ)
names_of maint = maint.script.now.names.items

-- the devices and links of the script; they stay when registers are written
abbrev pub topology_in : {N K : Type 0} → FabricMaint N K → Topology
topology_in maint = topology_of (devices_of maint.script.now.lines.items)
    (links_of maint.script.now.lines.items) maint.host

-- the registers of the fabric
abbrev pub registers_in : {N K : Type 0} → FabricMaint N K → AllRegisters
registers_in maint = registers_of maint.fabric.now.devices.items

-- The fabric stands for a state in which a host can ask: no packet is in the network, and all links
-- are at rest.
pub record MaintRestsAt (host : ℕ) (s : Seen) (fabric : Fabric) : Type 0 where
  pub can : CanAsk host s [] fabric
  pub quiet : AreQuiet s.network.links s

-- The fabric rests, and its devices and links are those of a script that passes, of which the host
-- is an endpoint.
pub record StandsFor (names : List (List ℕ)) (lines : List Numbered) (node : ℕ) (fabric : Fabric)
    : Type 0 where
  pub passes : ScriptPasses names lines
  pub host : IsHost (devices_of lines) (links_of lines) node
  pub named : length (devices_of lines) ≤ length names
  pub few : length names ≤ 256
  pub s : Seen
  pub rests : MaintRestsAt node s fabric
  pub topology : topology_of s.network.registers s.network.links node
      ≡ topology_of (devices_of lines) (links_of lines) node
  pub fits : Fits (topology_of (devices_of lines) (links_of lines) node)
      (registers_of s.network.registers)

abbrev pub StandsWhole : {N K : Type 0} → FabricMaint N K → Type 0
StandsWhole maint =
    StandsFor (names_of maint) maint.script.now.lines.items maint.host maint.fabric.now

-- ---- from one value to a later one

-- Script and host are the same, and so are the fabric, the noise and the sink that are lent.
pub record MaintIsSame {N K : Type 0} (old new : FabricMaint N K) : Type 0 where
  pub script : new.script.now ≡ old.script.now
  pub host : new.host ≡ old.host
  pub fabric : new.fabric.ghost_name ≡ old.fabric.ghost_name
  pub noise : new.noise.ghost_name ≡ old.noise.ghost_name
  pub sink : new.sink.ghost_name ≡ old.sink.ghost_name

-- Behind a state these lines may stand in a trace, and every event that was acted on was sent. They
-- lead to a second state, but for the registers of the host, which is an endpoint.
pub record LeadsTo (host : ℕ) (s : Seen) (lines : List TraceLine) (end : Seen) : Type 0 where
  pub made : Made s lines
  pub sent : (seen s lines).undetected ≡ None
  pub endpoint : IsEndpoint (seen s lines).network host
  pub device : Registers
  pub kind : is_switch device ≡ false
  pub end_is : end ≡ with_own host device (seen s lines)

-- From a state a host has made asks, to whose lines these laws apply, and the sink was told their
-- text. The wires met the edits of the noise in their order, and it still gives those that no wire
-- met. The fabric stands for the state that they lead to.
pub record Went {N K : Type 0} (edits : N → List Edit) (written : K → Option (List ℕ))
    (s : Seen) (old new : FabricMaint N K) : Type 0 where
  pub lines : List TraceLine
  pub end : Seen
  pub asked : Asked (edits old.noise.now) new.host s old.tid lines (edits new.noise.now) end new.tid
  pub leads : LeadsTo new.host s lines end
  pub told : Appends (written old.sink.now) (written new.sink.now)
      (trace_text (names_of new) lines)
  pub rests : MaintRestsAt new.host end new.fabric.now

-- From whatever state the first stands for, the host has come to the second. The count of write
-- faults of its sink has not fallen.
pub record Followed {N K : Type 0} (edits : N → List Edit) (written : K → Option (List ℕ))
    (faults : K → ℕ) (old new : FabricMaint N K) : Type 0 where
  pub same : MaintIsSame old new
  pub never_falls : faults old.sink.now ≤ faults new.sink.now
  pub went : (s : Seen) → MaintRestsAt old.host s old.fabric.now → Went edits written s old new

-- What was told of an ask that has no answer, with the edits that those before it left: nothing, or
-- a front of the text of its lines, which may stand in a trace behind those before.
pub data FrontOfAsk (left : List Edit) (host : ℕ) (names : List (List ℕ)) (s : Seen)
    (before : List TraceLine) (end : Seen) (tid : ℕ) (bytes : List ℕ) : Type 0 where
  NothingTold : bytes ≡ [] → FrontOfAsk left host names s before end tid bytes
  FrontTold : (request : Request) (block : List TraceLine) (rest : List ℕ)
      → IsAskOf left host end tid request block → Made s (before ++ block)
      → trace_text names block ≡ bytes ++ rest → FrontOfAsk left host names s before end tid bytes

-- From a state a host has made asks, and the sink was told their text and then a front of the text
-- of one more, up to where that stopped. `noise` is what gives the edits of that one.
pub record WentFront {N K : Type 0} (edits : N → List Edit) (written : K → Option (List ℕ))
    (s : Seen) (old new : FabricMaint N K) : Type 0 where
  pub lines : List TraceLine
  pub end : Seen
  pub tid : ℕ
  pub noise : N
  pub asked : Asked (edits old.noise.now) new.host s old.tid lines (edits noise) end tid
  pub leads : LeadsTo new.host s lines end
  pub bytes : List ℕ
  pub told : Appends (written old.sink.now) (written new.sink.now)
      (trace_text (names_of new) lines ++ bytes)
  pub begun : FrontOfAsk (edits noise) new.host (names_of new) s lines end tid bytes

-- From whatever state the first stands for, the host has left off at the second. The count of write
-- faults of its sink has not fallen.
pub record FollowedFront {N K : Type 0} (edits : N → List Edit) (written : K → Option (List ℕ))
    (faults : K → ℕ) (old new : FabricMaint N K) : Type 0 where
  pub same : MaintIsSame old new
  pub never_falls : faults old.sink.now ≤ faults new.sink.now
  pub left : (s : Seen) → MaintRestsAt old.host s old.fabric.now
      → WentFront edits written s old new

-- The last lines that the sink was told are those of an ask, from a state in which all links were
-- at rest and every event that was acted on had been sent. In it this port acted on this event,
-- which was not sent. The wires met the edits that a value of the noise gives.
pub record HasMet {N K : Type 0} (edits : N → List Edit) (written : K → Option (List ℕ))
    (maint : FabricMaint N K) (port : PortRef) (event : Event) : Type 0 where
  pub s : Seen
  pub tid : ℕ
  pub request : Request
  pub block : List TraceLine
  pub ready : IsReady s
  pub sent : s.undetected ≡ None
  pub quiet : AreQuiet s.network.links s
  pub noise : N
  pub is : IsAskOf (edits noise) maint.host s tid request block
  pub found : (seen s block).undetected ≡ Some (record { port = port; event = event })
  pub before : Option (List ℕ)
  pub told : Appends before (written maint.sink.now) (trace_text (names_of maint) block)
