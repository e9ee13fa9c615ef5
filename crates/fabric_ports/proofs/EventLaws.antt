-- What an event at a node needs, and what it did.
use Rattle.std.proofs.Common.{◌≡◌, ℕ, Bool, true, false, List, [], ◌∷◌, ◌++◌, get_or, slice_get, Option, Some, None, IsSome, Result, Ok, Err, option_map, unwrap_or, refl, sym, ap, ◌∙◌, subst}
use mathlib.Core.Path.{fun_ext}
use Rattle.std.proofs.lemmas.Option.{slice_get_within, slice_get-get_or}
use Rattle.trace_lines.specs.Writing.{Adds}
use Rattle.trace_lines.specs.declared.writer.TraceWriter.{TraceWriter}
use Rattle.trace_lines.specs.AddsLaws.{Adds-then}
use Rattle.rio_packets.specs.LinkForm.{LinkForm}
use Rattle.maint_registers.specs.Devices.{Registers, is_switch}
use Rattle.maint_packets.specs.Requests.{request_body}
use Rattle.maint_packets.specs.declared.request.Op.TheVariants as Ops
use Rattle.fabric_script.specs.declared.given_packets.Contents.{Contents}
use Rattle.fabric_script.specs.declared.given_packets.Contents.TheVariants as Of
use Rattle.fabric_script.specs.declared.given_packets.GivenPacket.{GivenPacket}
use Rattle.fabric_script.specs.declared.given_packets.RequestHead.{RequestHead}
use Rattle.fabric_script.specs.GivenPackets.{given_line, line_giving}
use Rattle.fabric_script.specs.Operations.{line_for, line_editing}
use Rattle.fabric_script.specs.declared.operations.Action.{Action}
use Rattle.fabric_script.specs.declared.operations.Action.TheVariants.{Pump, Deliver, TimeOut, Settle}
use Rattle.rio_chars.specs.declared.edit.Edit.{Edit}
use Rattle.rio_chars.specs.declared.edit.Edit.TheVariants as Edits
use Rattle.fabric_script.specs.declared.lines.Line.{Line}
use Rattle.fabric_model.specs.Network.{Network, IsEndpoint, IsSwitch, sender_id, id_of, peer_in}
use Rattle.fabric_trace.proofs.Shown.Wiring.{seen_links}
use Rattle.fabric_trace.specs.Blocks.{take_lines, SendsBody, edits, IsBlock}
use Rattle.fabric_trace.specs.Events.{IsInRange, HasLink, IsThere}
use Rattle.fabric_trace.specs.Fold.{edit_of, edited_by, seen}
use Rattle.fabric_trace.specs.Known.{Seen}
use Rattle.trace_lines.specs.Lines.{TraceLine, Begun}
use Rattle.fabric_trace.proofs.Parts.Folding.{seen-append}
use Rattle.fabric_script.specs.declared.ports.PortRef.{PortRef}
use Rattle.fabric_ports.specs.declared.answers.FabricEnd.{FabricEnd}
use Rattle.fabric_ports.specs.declared.answers.FabricEnd.TheVariants.{NoMemory}
use Rattle.fabric_ports.specs.declared.answers.Happened.{Happened}
use Rattle.fabric_ports.specs.declared.answers.Happened.TheVariants.{Other}
use Rattle.fabric_ports.specs.Acting.{AsksForSome}
use Rattle.fabric_ports.specs.Ends.{PortIsLinked}
use Rattle.fabric_ports.specs.declared.fabric.Fabric.{Fabric}
use Rattle.fabric_trace.proofs.Traces.Unique.{block_one}
use Rattle.fabric_ports.specs.Events.{body_in, request_by, answer_taken, happened, Did, IsOwnBlock, IsAnsweredBlock, Evented}
use Rattle.fabric_ports.specs.Places.{IsEndpointAt, IsSwitchAt}
use Rattle.fabric_ports.specs.Ran.{Blocks, Ran}
use Rattle.fabric_ports.specs.Showing.{ShowsFabric}
use Rattle.fabric_ports.specs.Standing.{Stands}
use Rattle.fabric_ports.proofs.EditLaws.{edit_block}
use Rattle.fabric_ports.proofs.RanLaws.{ran_behind}
use Rattle.fabric_ports.proofs.StandLaws.{stands_begun, stands_on}

-- ---- before

-- the endpoint of an event is one of the fabric, and of whatever is known
pub record IsEnd (fabric : Fabric) (node : ℕ) : Type 0 where
  pub device : IsEndpointAt fabric.devices.items node
  pub known : (s : Seen) → ShowsFabric fabric s → IsEndpoint s.network node

pub switch_of : {fabric : Fabric} {s : Seen} (node : ℕ) → ShowsFabric fabric s
    → IsSwitch s.network node → IsSwitchAt fabric.devices.items node
switch_of {fabric = fabric} node shows is = by_device (slice_get fabric.devices.items node) refl
    (ap (λ (l : List Registers). option_map is_switch (slice_get l node)) (sym shows.registers)
    ∙ is)
  where
    by_device : (o : Option Registers) → slice_get fabric.devices.items node ≡ o
        → option_map is_switch o ≡ Some true → IsSwitchAt fabric.devices.items node
    by_device None stands kind = absurd cc
    by_device (Some device) stands kind =
        record { device = device; stands = stands; kind = cc }

pub end_of : {fabric : Fabric} {s : Seen} (node : ℕ) → ShowsFabric fabric s
    → IsEndpoint s.network node → IsEnd fabric node
end_of node shows is = record {
  device = shows.endpoints node is;
  known = λ t other. rw (other.registers, sym shows.registers) is;
}

-- the IDs that are read of an endpoint are those that are known
pub ids_are : {fabric : Fabric} {s : Seen} {node : ℕ} (place : ℕ) (device : Registers)
    → ShowsFabric fabric s → IsEndpointAt fabric.devices.items node → place ≡ node
    → device ≡ get_or fabric.devices.items place device → sender_id device ≡ id_of s.network node
ids_are {fabric = fabric} {s = s} {node = node} place device shows at same value =
    let within = slice_get_within fabric.devices.items node at.device at.stands in
    let read : slice_get fabric.devices.items node ≡ Some device =
    slice_get-get_or fabric.devices.items node device within
    ∙ ap Some (ap (λ n. get_or fabric.devices.items n device) (sym same) ∙ sym value) in
    let known : slice_get s.network.registers node ≡ Some device =
    ap (λ (devices : List Registers). slice_get devices node) shows.registers ∙ read in
    fun_ext (λ (large : Bool).
    sym (ap
    (λ (o : Option Registers). unwrap_or
    (option_map (λ (d : Registers). sender_id d large) o) 0)
    known))

-- the packet that a line gives is that of its contents
pub given_form : (given : GivenPacket) (contents : Contents) (device : Registers)
    (body packet : List ℕ) → given.contents ≡ contents
    → body ≡ body_in (given_line given.node given.prio given.large given.dest contents)
    (sender_id device)
    → LinkForm body packet → LinkForm (body_in (line_giving given) (sender_id device)) packet
given_form given contents device body packet is same form =
    subst (λ (c : Contents). LinkForm
    (body_in (given_line given.node given.prio given.large given.dest c) (sender_id device)) packet)
    (sym is) (subst (λ (b : List ℕ). LinkForm b packet) same form)

module _ (node prio : ℕ) where
  pub read_body : (large : Bool) (dest : ℕ) (head : RequestHead) (ids : Bool → ℕ)
      → request_body
      (request_by (ids large) prio large dest head.hop head.tid head.offset Ops.Read)
      ≡ body_in (given_line node prio large dest (Of.Read head)) ids
  read_body false dest head ids = refl
  read_body true dest head ids = refl

  pub write_body : (large : Bool) (dest : ℕ) (head : RequestHead) (value : ℕ) (ids : Bool → ℕ)
      → request_body
      (request_by (ids large) prio large dest head.hop head.tid head.offset (Ops.Write value))
      ≡ body_in (given_line node prio large dest (Of.Write head value)) ids
  write_body false dest head value ids = refl
  write_body true dest head value ids = refl

-- ---- afterwards

-- an event, by what was done behind the line with which it begins
pub evented : {line asked : Line} {K : Type 0} {b b2 b3 : TraceWriter K} {from : Seen}
    {lines : List TraceLine} {begins : Seen} {old new : Fabric} {Is : List TraceLine → Type 0}
    (told : Happened) → line ≡ asked → edited_by (seen from lines) (edit_of asked) ≡ begins
    → Stands from lines old → Adds b b2 (Begun line ∷ []) → Did Is b2 b3 begins new
    → ((block : List TraceLine) → Is block → IsBlock (seen from lines) asked block
    × (told ≡ happened asked block))
    → Evented line (IsAnsweredBlock line told) b b3 from lines (Ok new)
evented {line = line} {from = from} {lines = lines} {begins = begins} {new = new} told asks same
    stands begun did is =
    let s = seen from lines in
    let all = subst (λ (l : Line). IsBlock s l did.block × (told ≡ happened l did.block)) (sym asks)
    (is did.block did.is) in
    let begins_so : begins ≡ edited_by s (edit_of line) =
    sym same ∙ ap (λ (l : Line). edited_by s (edit_of l)) (sym asks) in
    record {
      block = did.block;
      is = (all.0, (λ other own. block_one line s other did.block own all.0), all.1);
      ends = (
        Adds-then begun did.adds,
        stands_on line did.block stands all.0
            (subst (λ (t : Seen). (seen t did.block).undetected ≡ None) begins_so did.sent)
            (subst (λ (t : Seen). ShowsFabric new (seen t did.block)) begins_so did.shows),
      );
    }

-- an event that edits no wire, by what ran behind the line with which it begins
pub ran_evented : {line asked : Line} {K : Type 0} {b b2 b3 : TraceWriter K} {from : Seen}
    {lines : List TraceLine} {old : Fabric} {end : Result Fabric FabricEnd} → line ≡ asked
    → edited_by (seen from lines) (edit_of asked) ≡ seen from lines → Stands from lines old
    → Adds b b2 (Begun line ∷ [])
    → ((more : List TraceLine) → Stands from more old → Ran (Blocks asked) b2 b3 from more end)
    → Evented line (IsOwnBlock line) b b3 from lines end
ran_evented {line = line} {asked = asked} {from = from} {lines = lines} is same stands begun runs =
    let s = seen from lines in
    let still : edited_by s (edit_of line) ≡ s =
    ap (λ (l : Line). edited_by s (edit_of l)) is ∙ same in
    let joined : seen from (lines ++ Begun line ∷ []) ≡ s =
    seen-append from lines (Begun line ∷ []) ∙ still in
    ran_behind (Begun line) lines
    (λ block blocks. (let own = subst (λ (l : Line). IsBlock s l block) (sym is)
    (subst (λ (t : Seen). IsBlock t asked block) joined blocks) in
    (own, λ other also. block_one line s other block also own))) begun
    (runs (lines ++ Begun line ∷ []) (stands_begun line still stands))

-- and what it answers, whatever its block is
pub answered_so : {line asked : Line} {K : Type 0} {b b2 : TraceWriter K} {from : Seen}
    {lines : List TraceLine} {end : Result Fabric FabricEnd} (told : Happened) → line ≡ asked
    → ((block : List TraceLine) → told ≡ happened asked block)
    → Evented line (IsOwnBlock line) b b2 from lines end
    → Evented line (IsAnsweredBlock line told) b b2 from lines end
answered_so told is tells own = record {
  block = own.block;
  is = (
    own.is.0,
    own.is.1,
    tells own.block ∙ ap (λ (l : Line). happened l own.block) (sym is),
  );
  ends = own.ends;
}

-- the line has a packet taken at this node
pub record IsTaken (line : Line) (node : ℕ) : Type 0 where
  pub edits : edit_of line ≡ None
  pub there : (net : Network) → IsThere net line → IsEndpoint net node
  pub block : (s : Seen) (packet : List ℕ) (block : List TraceLine) → IsEndpoint s.network node
      → LinkForm (body_in line (id_of s.network node)) packet → block ≡ take_lines s node packet
      → IsBlock s line block
  pub answers : (block : List TraceLine) → happened line block ≡ answer_taken block

sends : (s : Seen) (node : ℕ) {body : List ℕ} (packet : List ℕ) (block : List TraceLine)
    → IsEndpoint s.network node → LinkForm body packet → block ≡ take_lines s node packet
    → SendsBody s node body block
sends s node packet block endpoint form is =
    record { packet = packet; endpoint = endpoint; form = form; lines = is }

pub is_taken : (node prio : ℕ) (large : Bool) (dest : ℕ) (contents : Contents)
    → IsTaken (given_line node prio large dest contents) node
is_taken node prio false dest (Of.Data ftype hex) = record {
  edits = refl;
  there = λ net is. is;
  block = λ s. sends s node;
  answers = λ block. refl;
}
is_taken node prio false dest (Of.Read head) = record {
  edits = refl;
  there = λ net is. is;
  block = λ s. sends s node;
  answers = λ block. refl;
}
is_taken node prio false dest (Of.Write head value) = record {
  edits = refl;
  there = λ net is. is;
  block = λ s. sends s node;
  answers = λ block. refl;
}
is_taken node prio true dest (Of.Data ftype hex) = record {
  edits = refl;
  there = λ net is. is;
  block = λ s. sends s node;
  answers = λ block. refl;
}
is_taken node prio true dest (Of.Read head) = record {
  edits = refl;
  there = λ net is. is;
  block = λ s. sends s node;
  answers = λ block. refl;
}
is_taken node prio true dest (Of.Write head value) = record {
  edits = refl;
  there = λ net is. is;
  block = λ s. sends s node;
  answers = λ block. refl;
}

pub taken_line : (line : Line) (given : GivenPacket) → line ≡ line_giving given
    → IsTaken line given.node
taken_line line given is = subst (λ (l : Line). IsTaken l given.node) (sym is)
    (is_taken given.node given.prio given.large given.dest given.contents)

pub sent_block : (s : Seen) {line : Line} {node : ℕ} (ids : Bool → ℕ) (packet : List ℕ)
    (told : Happened) → IsTaken line node → IsEndpoint s.network node
    → ids ≡ id_of s.network node → LinkForm (body_in line ids) packet
    → (block : List TraceLine) → (block ≡ take_lines s node packet) × (told ≡ answer_taken block)
    → IsBlock s line block × (told ≡ happened line block)
sent_block s {line = line} ids packet told takes_it endpoint same form block is = (
  takes_it.block s packet block endpoint
      (subst (λ (own : Bool → ℕ). LinkForm (body_in line own) packet) same form) is.0,
  is.1 ∙ sym (takes_it.answers block),
)

-- ---- at a link

-- a port that has a link now had one when the fabric was made
pub is_linked : {fabric : Fabric} {from : Seen} {lines : List TraceLine} (port : PortRef)
    → Stands from lines fabric → HasLink (seen from lines).network port
    → PortIsLinked fabric port
is_linked {from = from} {lines = lines} port stands has = record {
  from = from;
  lines = lines;
  stands = stands;
  linked = subst (λ (links : List (PortRef × PortRef)). IsSome (peer_in links port))
      (seen_links from lines) has;
}

-- what it asks of a link is asked at a port that has one, and what it has delivered is something
pub asks_link : (net : Network) (port : PortRef) (action : Action)
    → IsThere net (line_for port action) → HasLink net port
asks_link net port (Pump turns) is = is
asks_link net port (Deliver count) is = is
asks_link net port TimeOut is = is
asks_link net port Settle is = is

pub asks_some : (port : PortRef) (action : Action) → IsInRange (line_for port action)
    → AsksForSome action
asks_some port (Pump turns) range = tt
asks_some port (Deliver count) range = range.0
asks_some port TimeOut range = tt
asks_some port Settle range = tt

pub edits_link : (net : Network) (port : PortRef) (edit : Edit)
    → IsThere net (line_editing port edit) → HasLink net port
edits_link net port (Edits.Alter place ch) is = is
edits_link net port (Edits.Insert place ch) is = is
edits_link net port (Edits.Erase place count) is = is

-- they answer nothing
pub action_answers : (port : PortRef) (action : Action) (block : List TraceLine)
    → Other ≡ happened (line_for port action) block
action_answers port (Pump turns) block = refl
action_answers port (Deliver count) block = refl
action_answers port TimeOut block = refl
action_answers port Settle block = refl

pub edit_answers : (port : PortRef) (edit : Edit) (block : List TraceLine)
    → Other ≡ happened (line_editing port edit) block
edit_answers port (Edits.Alter place ch) block = refl
edit_answers port (Edits.Insert place ch) block = refl
edit_answers port (Edits.Erase place count) block = refl

-- no line of an edit was written but that with which it begins
pub edit_unmade : (line : Line) (port : PortRef) (edit : Edit) {K : Type 0}
    {b b2 : TraceWriter K} (b3 : TraceWriter K) (from : Seen) (lines : List TraceLine)
    (end : FabricEnd)
    → line ≡ line_editing port edit
    → Adds b b2 (Begun line ∷ [])
    → (end ≡ NoMemory) × (b3 ≡ b2)
    → Evented line (IsOwnBlock line) b b3 from lines (Err end)
edit_unmade line port edit {b = b} b3 from lines end is begun unmade =
    let s = seen from lines in
    let block = edits s (Some (port, edit)) in
    let own = subst (λ (l : Line). IsBlock s l block) (sym is) (edit_block s port edit block refl)
    in
    subst (λ e. Evented line (IsOwnBlock line) b b3 from lines (Err e))
    (sym unmade.0)
    (subst (λ o. Evented line (IsOwnBlock line) b o from lines (Err NoMemory))
    (sym unmade.1) (record {
      block = block;
      is = (own, λ other also. block_one line s other block also own);
      ends = record {
        front = Begun line ∷ [];
        rest = block;
        adds = begun;
        whole = refl;
      };
    }))
