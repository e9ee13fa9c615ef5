-- What an edit of a wire makes of a fabric, and its block.
use Rattle.std.proofs.Common.{◌≡◌, ℕ, Bool, true, false, List, [], ◌∷◌, Some, slice_get, slice_set, slice_index_or, refl, sym, ap, ◌∙◌, subst, if◌then◌else◌}
use Rattle.std.proofs.lemmas.List.{set-get_or}
use Rattle.std.proofs.lemmas.Option.{get_or_from_slice_get}
use Rattle.std.specs.Vec.{with_item}
use Rattle.trace_lines.specs.Writing.{Adds}
use Rattle.trace_lines.specs.declared.writer.TraceWriter.{TraceWriter}
use Rattle.link_port.specs.Ports.{PortState}
use Rattle.link_watch.specs.declared.side.Side.{Side}
use Rattle.link_watch.specs.declared.side.Side.TheVariants.{A, B}
use Rattle.link_wires.specs.Wires.{fits, edited, after_edit, edit_answered}
use Rattle.rio_chars.specs.declared.edit.Edit.{Edit}
use Rattle.link_wires.specs.declared.edits.Edited.{Edited}
use Rattle.link_machine.specs.Calls.{edited_from}
use Rattle.link_machine.specs.States.{Wires, LinkState, link, wire_at}
use Rattle.fabric_script.specs.Operations.{line_editing}
use Rattle.rio_chars.specs.declared.edit.Edit.TheVariants as Edits
use Rattle.fabric_script.specs.declared.ports.PortRef.{PortRef}
use Rattle.fabric_model.specs.Network.{same_port}
use Rattle.fabric_model.proofs.Peers.{apart_back}
use Rattle.trace_lines.specs.Notes.{port_at_side}
use Rattle.fabric_trace.specs.Blocks.{edits, IsBlock}
use Rattle.fabric_trace.specs.Fold.{edit_of, changed, edited_by, seen}
use Rattle.fabric_trace.specs.Known.{Wire, Seen, wire_state, port_seen, link_at}
use Rattle.trace_lines.specs.Lines as traced
use Rattle.trace_lines.specs.Lines.{TraceLine, Lacked}
use Rattle.fabric_trace.proofs.Parts.Folding.{wire_own, wire_other}
use Rattle.fabric_trace.proofs.Parts.Making.{AreOthers}
use Rattle.fabric_trace.proofs.Network.Walks.{elsewhere_here}
use Rattle.fabric_ports.specs.Acting.{lack_lines, edit_acted}
use Rattle.fabric_ports.specs.Ends.{IsPlaceOf}
use Rattle.fabric_ports.specs.Events.{Did}
use Rattle.fabric_ports.specs.Places.{place_of}
use Rattle.fabric_ports.specs.Ran.{Blocks}
use Rattle.fabric_ports.specs.Showing.{ShowsFabric}
use Rattle.fabric_ports.specs.Standing.{Stands}
use Rattle.fabric_ports.specs.declared.actions.Acted.{Acted}
use Rattle.fabric_ports.specs.declared.actions.Acted.TheVariants.{Done, Short, Early}
use Rattle.fabric_ports.specs.declared.ends.LinkPlace.{LinkPlace}
use Rattle.fabric_ports.specs.declared.fabric.Cable.{Cable}
use Rattle.fabric_ports.specs.declared.fabric.Fabric.{Fabric}
use Rattle.fabric_ports.specs.declared.idle.Idle.{Idle}
use Rattle.fabric_ports.proofs.Cables.{WokeLink, IsChanged, changed_shows, with_wires}
use Rattle.fabric_ports.proofs.EndLaws.{cable_shown, cable_is}
use Rattle.fabric_ports.proofs.LinkLaws.{IsKnown, known}

-- ---- the block

pub edit_block : (s : Seen) (port : PortRef) (edit : Edit) (block : List TraceLine)
    → block ≡ edits s (Some (port, edit)) → IsBlock s (line_editing port edit) block
edit_block s port (Edits.Alter place ch) block is = is
edit_block s port (Edits.Insert place ch) block is = is
edit_block s port (Edits.Erase place count) block is = is

-- the line asks for this edit
pub edit_of_line : (port : PortRef) (edit : Edit)
    → edit_of (line_editing port edit) ≡ Some (port, edit)
edit_of_line port (Edits.Alter place ch) = refl
edit_of_line port (Edits.Insert place ch) = refl
edit_of_line port (Edits.Erase place count) = refl

lacks_is : (x : Bool)
    → lack_lines (edit_acted (edit_answered x)) ≡ (if x then [] else Lacked traced.Short ∷ [])
lacks_is true = refl
lacks_is false = refl

lack_same : (s : Seen) (answer : Acted) → seen s (lack_lines answer) ≡ s
lack_same s Done = refl
lack_same s Short = refl
lack_same s Early = refl

-- ---- the link

-- a wire with changed characters
edited_state : (edit : Edit) (wire : Wire)
    → wire_state (record wire { chars = changed edit wire.chars }) ≡ after_edit edit
    (wire_state wire)
edited_state edit wire =
    elim (fits edit wire.chars) as
    (λ x. wire_state (record wire { chars = if x then edited edit wire.chars else wire.chars })
    ≡ (if x then record (wire_state wire) { chars = edited edit wire.chars } else wire_state wire))
    [ true ↦ refl | false ↦ refl ]

edited_at : (s : Seen) (a b : PortRef) (side : Side) (edit : Edit) → same_port a b ≡ false
    → link_at (edited_by s (Some (port_at_side a b side, edit))) a b ≡ edited_from side edit
    (link_at s a b)
edited_at s a b A edit apart =
    let wire = record (s.wires a) { chars = changed edit (s.wires a).chars } in
    let own = ap wire_state (wire_own s.wires a wire) ∙ edited_state edit (s.wires a) in
    let other = ap wire_state (wire_other s.wires a wire b (apart_back a b apart)) in
    λ i. record { a = port_seen s a; b = port_seen s b; wire_a = own i; wire_b = other i }
edited_at s a b B edit apart =
    let wire = record (s.wires b) { chars = changed edit (s.wires b).chars } in
    let own = ap wire_state (wire_own s.wires b wire) ∙ edited_state edit (s.wires b) in
    let other = ap wire_state (wire_other s.wires b wire a apart) in
    λ i. record { a = port_seen s a; b = port_seen s b; wire_a = other i; wire_b = own i }

edit_others : (s : Seen) (a b : PortRef) (side : Side) (edit : Edit)
    → AreOthers s (edited_by s (Some (port_at_side a b side, edit))) a b
edit_others s a b A edit = record {
  links = refl;
  untouched = λ c x y. record {
    lists = (elsewhere_here s.network a b).others c x y;
    wire =
        wire_other s.wires a (record (s.wires a) { chars = changed edit (s.wires a).chars }) c x;
    half = refl;
  };
}
edit_others s a b B edit = record {
  links = refl;
  untouched = λ c x y. record {
    lists = (elsewhere_here s.network a b).others c x y;
    wire =
        wire_other s.wires b (record (s.wires b) { chars = changed edit (s.wires b).chars }) c y;
    half = refl;
  };
}

wire_chars : (s : Seen) (a b : PortRef) (side : Side) (wires : Wires) (x y : PortState)
    → link wires x y ≡ link_at s a b
    → (wire_at side wires).chars ≡ (s.wires (port_at_side a b side)).chars
wire_chars s a b A wires x y is = ap (λ (l : LinkState). l.wire_a.chars) is
wire_chars s a b B wires x y is = ap (λ (l : LinkState). l.wire_b.chars) is

-- ---- the fabric

-- the fabric with this link
abbrev pub fabric_edited : Fabric → ℕ → Cable → Wires → Idle → Fabric
fabric_edited fabric k cable wires idle = record {
  devices = fabric.devices;
  firsts = fabric.firsts;
  ports = fabric.ports;
  cables = with_item fabric.cables k (with_wires cable wires);
  cable_at = fabric.cable_at;
  idle = idle;
}

set_same : {X : Type 0} (xs : List X) (i : ℕ) (x : X) → slice_get xs i ≡ Some x
    → slice_set xs i x ≡ xs
set_same xs i x is = ap (slice_set xs i) (sym (get_or_from_slice_get xs i x x is))
    ∙ set-get_or xs i x

links_changed : (fabric : Fabric) (k : ℕ) (cable : Cable) (wires : Wires) (x y : PortState)
    → slice_get fabric.ports.items (place_of fabric.firsts.items cable.a) ≡ Some x
    → slice_get fabric.ports.items (place_of fabric.firsts.items cable.b) ≡ Some y → {idle : Idle}
    → WokeLink fabric k cable idle
    → IsChanged fabric (fabric_edited fabric k cable wires idle) k cable wires x y
links_changed fabric k cable wires x y at_x at_y woke = record {
  devices = refl;
  firsts = refl;
  ports =
      let px = place_of fabric.firsts.items cable.a in
      let py = place_of fabric.firsts.items cable.b in
      sym (ap (λ l. slice_set l py y) (set_same fabric.ports.items px x at_x)
      ∙ set_same fabric.ports.items py y at_y);
  cables = refl;
  cable_at = refl;
  idle = woke;
}

-- what is known of a link whose ports stand where they are shown
edit_known : {from : Seen} {lines : List TraceLine} {fabric : Fabric} {port : PortRef}
    {place : LinkPlace} → Stands from lines fabric → (p : IsPlaceOf fabric port place)
    → IsKnown from lines fabric port place p.is.cable
    (port_seen (seen from lines) p.is.cable.a)
    (port_seen (seen from lines) p.is.cable.b)
edit_known {from} {lines} {fabric} {port} {place} stands p =
    let s = seen from lines in
    let d = p.is.cable in
    let shown = cable_shown place.cable d stands p.is.at in
    known (port_seen s d.a) (port_seen s d.b) stands p (ap (slice_get fabric.ports.items) p.first
    ∙ stands.shows.ports d.a shown.port_a)
    (ap (slice_get fabric.ports.items) p.second ∙ stands.shows.ports d.b shown.port_b)

-- the link is the one that stands at the place
module _ (fabric : Fabric) (port : PortRef) (place : LinkPlace) (p : IsPlaceOf fabric port place)
    (cable : Cable) (met : cable ≡ slice_index_or fabric.cables.items place.cable cable)
  where
    -- its wire has the characters that are known
    pub edit_chars : {from : Seen} {lines : List TraceLine} → Stands from lines fabric
        → (wire_at place.side cable.link).chars ≡ ((seen from lines).wires port).chars
    edit_chars {from = from} {lines = lines} stands =
        let s = seen from lines in
        let d = p.is.cable in
        let same = cable_is fabric.cables.items port place.cable place.side p.is cable met in
        let k = edit_known stands p in
        let x = port_seen s d.a in
        let y = port_seen s d.b in
        wire_chars s d.a d.b place.side cable.link x y
        (ap (λ (c : Cable). link c.link x y) same ∙ k.shown)
        ∙ ap (λ (q : PortRef). (s.wires q).chars) (sym k.end)

    -- the fabric shows what is known after the edit
    pub edit_shows : (edit : Edit) (wires : Wires) (idle : Idle)
        → WokeLink fabric place.cable cable idle
        → ((x y : PortState) → link wires x y ≡ edited_from place.side edit (link cable.link x y))
        → (from : Seen) (lines : List TraceLine) → Stands from lines fabric
        → ShowsFabric (fabric_edited fabric place.cable cable wires idle)
        (edited_by (seen from lines) (Some (port, edit)))
    edit_shows edit wires idle woke becomes from lines stands =
        let s = seen from lines in
        let d = p.is.cable in
        let same : cable ≡ d = cable_is fabric.cables.items port place.cable place.side p.is cable
        met in
        let k = edit_known stands p in
        let x = port_seen s d.a in
        let y = port_seen s d.b in
        let t = edited_by s (Some (port, edit)) in
        let shown : link cable.link x y ≡ link_at s d.a d.b = ap (λ (c : Cable). link c.link x y)
        same ∙ k.shown in
        let there : link_at t d.a d.b ≡ link wires x y =
        ap (λ (q : PortRef). link_at (edited_by s (Some (q, edit))) d.a d.b) k.end
        ∙ edited_at s d.a d.b place.side edit k.peers.apart
        ∙ ap (edited_from place.side edit) (sym shown) ∙ sym (becomes x y) in
        let others : AreOthers s t d.a d.b =
        subst (λ (q : PortRef). AreOthers s (edited_by s (Some (q, edit))) d.a d.b) (sym k.end)
        (edit_others s d.a d.b place.side edit) in
        let in_place = cable_shown place.cable d stands p.is.at in
        let changes =
        links_changed fabric place.cable d wires x y (stands.shows.ports d.a in_place.port_a)
        (stands.shows.ports d.b in_place.port_b)
        (subst (λ (c : Cable). WokeLink fabric place.cable c idle) same woke) in
        let new_fabric = fabric_edited fabric place.cable d wires idle in
        subst (λ (c : Cable). ShowsFabric (fabric_edited fabric place.cable c wires idle) t)
        (sym same)
        (changed_shows fabric new_fabric s t place.cable d wires x y stands.shows k.at changes
        k.good.proper others refl there)

-- the block is written, and the fabric shows what is known after it
pub edit_did : {K : Type 0} {fabric : Fabric}
    {port : PortRef} {place : LinkPlace} (p : IsPlaceOf fabric port place) {cable : Cable}
    → cable ≡ slice_index_or fabric.cables.items place.cable cable → (edit : Edit) (wires : Wires)
    → ((x y : PortState) → link wires x y ≡ edited_from place.side edit (link cable.link x y))
    → {idle : Idle} → WokeLink fabric place.cable cable idle
    → (answer : Edited) → answer ≡ edit_answered (fits edit (wire_at place.side cable.link).chars)
    → (old new : TraceWriter K) → Adds old new (lack_lines (edit_acted answer))
    → (from : Seen) (lines : List TraceLine) → Stands from lines fabric
    → Did (Blocks (line_editing port edit) (seen from lines)) old new
    (edited_by (seen from lines) (Some (port, edit)))
    (fabric_edited fabric place.cable cable wires idle)
edit_did {fabric = fabric} {port = port} {place = place} p {cable = cable} met edit wires
    becomes {idle = idle} woke
    answer answers old new adds
    from lines stands =
    let s = seen from lines in
    let new_fabric = fabric_edited fabric place.cable cable wires idle in
    let t = edited_by s (Some (port, edit)) in
    let block = lack_lines (edit_acted answer) in
    let block_is : block ≡ edits s (Some (port, edit)) =
    ap (λ z. lack_lines (edit_acted z)) answers
    ∙ lacks_is (fits edit (wire_at place.side cable.link).chars)
    ∙ ap (λ z. if fits edit z then [] else Lacked traced.Short ∷ [])
    (edit_chars fabric port place p cable met stands) in
    let still = lack_same t (edit_acted answer) in
    let shows : ShowsFabric new_fabric t =
    edit_shows fabric port place p cable met edit wires idle woke becomes from lines stands in
    record {
      block = block;
      adds = adds;
      is = edit_block s port edit block block_is;
      sent = ap (λ (z : Seen). z.undetected) still ∙ stands.sent;
      shows = subst (ShowsFabric new_fabric) (sym still) shows;
    }
