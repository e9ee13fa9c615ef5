-- What a fabric shows after an event at a link, by what the call between two ports says.
use Rattle.std.proofs.Common.{◌≡◌, ℕ, List, length, Result, Ok, Err, IfOk, slice_get, slice_set, slice_index_or, Some, refl, sym, ap, ◌∙◌, subst}
use Rattle.std.proofs.lemmas.List.{with_items_is, length-set}
use Rattle.std.specs.Vec.{with_item, with_items}
use Rattle.trace_lines.specs.Writing.{Adds}
use Rattle.trace_lines.specs.declared.writer.TraceWriter.{TraceWriter}
use Rattle.fabric_script.specs.Operations.{line_for}
use Rattle.fabric_script.specs.declared.operations.Action.{Action}
use Rattle.link_port.specs.Ports.{PortState}
use Rattle.link_machine.specs.Sound.{IsSoundLink}
use Rattle.link_machine.specs.States.{Wires, link}
use Rattle.link_law.specs.declared.answers.LinkEnd.{LinkEnd}
use Rattle.link_law.specs.declared.answers.LinkEnd.TheVariants.{Undetected, Failed, NoMemory}
use Rattle.fabric_script.specs.declared.ports.PortRef.{PortRef}
use Rattle.fabric_trace.specs.Known.{Seen}
use Rattle.trace_lines.specs.Lines.{TraceLine}
use Rattle.rio_chars.specs.declared.sink.Sink.{Ghosts}
use Rattle.trace_lines.specs.Watching.{WritesNotes}
use Rattle.trace_lines.specs.declared.watching.LinkLines.{LinkLines}
use Rattle.fabric_ports.specs.Acting.{part_of, answer_of, lack_lines, event_end, Acts, AtTwo}
use Rattle.fabric_ports.specs.Ends.{IsPlaceOf}
use Rattle.fabric_ports.specs.Places.{place_of}
use Rattle.fabric_ports.specs.Ran.{Ran, Blocks}
use Rattle.fabric_ports.specs.Standing.{Stands}
use Rattle.fabric_ports.specs.declared.actions.Acted.{Acted}
use Rattle.fabric_ports.specs.declared.ends.LinkPlace.{LinkPlace}
use Rattle.fabric_ports.specs.declared.fabric.Cable.{Cable}
use Rattle.fabric_ports.specs.declared.fabric.Fabric.{Fabric}
use Rattle.fabric_ports.specs.declared.idle.Idle.{Idle}
use Rattle.fabric_ports.proofs.Cables.{WokeLink, IsChanged, with_wires}
use Rattle.fabric_ports.proofs.EndLaws.{cable_is}
use Rattle.fabric_ports.proofs.LinkLaws.{IsKnown, known, known_sound, IsLent, back, link_blocked, link_exposed, link_cut}

-- the link at a place, and the list of the ports, as the body has them
pub record IsMet (fabric : Fabric) (port : PortRef) (place : LinkPlace) (cable : Cable)
    (ports : List PortState) : Type 0 where
  pub place_is : IsPlaceOf fabric port place
  pub cable_is : cable ≡ place_is.is.cable
  pub ports_are : ports ≡ fabric.ports.items

pub met : {fabric : Fabric} {port : PortRef} {place : LinkPlace} {cable : Cable}
    {ports : List PortState} → IsPlaceOf fabric port place
    → cable ≡ slice_index_or fabric.cables.items place.cable cable → ports ≡ fabric.ports.items
    → IsMet fabric port place cable ports
met {fabric} {port} {place} {cable} p is ports = record {
  place_is = p;
  cable_is = cable_is fabric.cables.items port place.cable place.side p.is cable is;
  ports_are = ports;
}

met_known : {from : Seen} {lines : List TraceLine} {fabric : Fabric} {port : PortRef}
    {place : LinkPlace} {cable : Cable} {ports : List PortState} (x y : PortState)
    → IsMet fabric port place cable ports → slice_get ports place.a ≡ Some x
    → slice_get ports place.b ≡ Some y → Stands from lines fabric
    → IsKnown from lines fabric port place cable x y
met_known {from} {lines} {fabric} {port} {place} {cable} x y m at_x at_y stands =
    let first = subst (λ (l : List PortState). slice_get l place.a ≡ Some x) m.ports_are at_x in
    let second = subst (λ (l : List PortState). slice_get l place.b ≡ Some y) m.ports_are at_y in
    subst (λ (c : Cable). IsKnown from lines fabric port place c x y) (sym m.cable_is)
    (known x y stands m.place_is first second)

-- the link is sound before
pub met_sound : {from : Seen} {lines : List TraceLine} {fabric : Fabric} {port : PortRef}
    {place : LinkPlace} {cable : Cable} {ports : List PortState} (x y : PortState)
    → IsMet fabric port place cable ports → slice_get ports place.a ≡ Some x
    → slice_get ports place.b ≡ Some y → Stands from lines fabric
    → IsSoundLink (link cable.link x y)
met_sound x y m at_x at_y stands = known_sound (met_known x y m at_x at_y stands)

-- the fabric with this link and these ports
abbrev pub fabric_with : Fabric → ℕ → Cable → Wires → List PortState → Idle → Fabric
fabric_with fabric k cable wires ports idle = record {
  devices = fabric.devices;
  firsts = fabric.firsts;
  ports = with_items fabric.ports ports;
  cables = with_item fabric.cables k (with_wires cable wires);
  cable_at = fabric.cable_at;
  idle = idle;
}

changed_with : (fabric : Fabric) (place : LinkPlace) (cable : Cable) (wires : Wires)
    (ports next : List PortState) (x y : PortState) → ports ≡ fabric.ports.items
    → place.a ≡ place_of fabric.firsts.items cable.a
    → place.b ≡ place_of fabric.firsts.items cable.b
    → next ≡ slice_set (slice_set ports place.a x) place.b y → {idle : Idle}
    → WokeLink fabric place.cable cable idle
    → IsChanged fabric (fabric_with fabric place.cable cable wires next idle) place.cable cable
    wires x y
changed_with fabric place cable wires ports next x y same first second becomes woke =
    let counted : length next ≡ fabric.ports.len =
    ap (λ (l : List PortState). length l) becomes ∙ length-set (slice_set ports place.a x) place.b y
    ∙ length-set ports place.a x ∙ ap (λ (l : List PortState). length l) same
    ∙ sym fabric.ports.ok.0 in
    record {
      devices = refl;
      firsts = refl;
      ports = with_items_is fabric.ports next counted ∙ becomes
          ∙ (λ i. slice_set (slice_set (same i) (first i) x) (second i) y);
      cables = refl;
      cable_at = refl;
      idle = woke;
    }

-- ---- what the call between two ports says

-- of the two ports, before and after
abbrev pub Says : {K : Type 0} {S : Ghosts K} → LinkPlace → Action → Cable → LinkLines K S
    → Result Acted LinkEnd → Wires → LinkLines K S
    → PortState → PortState → PortState → PortState → Type 0
Says place action cable before result wires after a b a2 b2 =
    Acts WritesNotes (λ watch note next. next ≡ watch) (part_of place.side action)
    (link cable.link a b) before result (link wires a2 b2) after
    × IfOk result (λ answer. answer ≡ answer_of place.side action (link cable.link a b))

module _ {K : Type 0} {S : Ghosts K} {fabric : Fabric} {port : PortRef} {place : LinkPlace}
    (action : Action) {cable : Cable} {ports next : List PortState} (wires : Wires)
    {before : LinkLines K S} (after : LinkLines K S) (result : Result Acted LinkEnd)
    (m : IsMet fabric port place cable ports)
    (two : AtTwo place.a place.b ports next
    (Says place action cable before result wires after))
    {writer : TraceWriter K} (lent : IsLent writer before cable.a cable.b)
    {idle : Idle} (woke : WokeLink fabric place.cable cable idle) where
  says : (r : Result Acted LinkEnd) → result ≡ r
      → Says place action cable before r wires after two.first two.second
      two.next_first two.next_second
  says r is =
      subst (λ r. Says place action cable before r wires after two.first two.second
      two.next_first two.next_second) is two.holds

  is_known : {from : Seen} {lines : List TraceLine} → Stands from lines fabric
      → IsKnown from lines fabric port place cable two.first two.second
  is_known stands = met_known two.first two.second m two.at_first two.at_second stands

  pub act_done : (answer : Acted) → result ≡ Ok answer → (last : TraceWriter K)
      → Adds (back writer after.outbox.now) last (lack_lines answer)
      → (from : Seen) (lines : List TraceLine) → Stands from lines fabric
      → Ran (Blocks (line_for port action)) writer last from lines
      (Ok (fabric_with fabric place.cable cable wires next idle))
  act_done answer is last lacks from lines stands =
      let does = says (Ok answer) is in
      let k = is_known stands in
      let changed = changed_with fabric place cable wires ports next two.next_first two.next_second
      m.ports_are k.first k.second two.becomes woke in
      link_blocked action after answer k does.0 does.1 lent lacks changed

  pub act_ended : (end : LinkEnd) → result ≡ Err end → (from : Seen) (lines : List TraceLine)
      → Stands from lines fabric
      → Ran (Blocks (line_for port action)) writer (back writer after.outbox.now) from
      lines
      (Err (event_end cable.a cable.b end))
  act_ended (Undetected side e) is from lines stands =
      link_exposed action side e after (is_known stands) (says (Err (Undetected side e)) is).0 lent
  act_ended Failed is from lines stands =
      link_cut action after (is_known stands) (says (Err Failed) is).0 lent
  act_ended NoMemory is from lines stands =
      link_cut action after (is_known stands) (says (Err NoMemory) is).0 lent

-- ---- the writer behind the call

pub written_by : {K : Type 0} {old new : TraceWriter K} {lines : List TraceLine}
    (next : TraceWriter K) → next ≡ new → Adds old new lines → Adds old next lines
written_by {old = old} {lines = lines} next same adds =
    subst (λ o. Adds old o lines) (sym same) adds
