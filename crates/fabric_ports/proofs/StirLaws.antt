-- An edit of a wire whose line is written if it does something.
use Rattle.std.proofs.Common.{◌≡◌, ◌&&◌, ◌<◌, ◌+◌, not, Bool, true, false, List, [], ◌∷◌, ◌++◌, length, take, drop, Some, None, refl, sym, ap, ◌∙◌, subst, if◌then◌else◌, slice_index_or, arith, Result, Ok, Err}
use Rattle.std.proofs.lemmas.Bool.{eqb-true}
use Rattle.std.proofs.lemmas.List.{take-append-drop}
use Rattle.trace_lines.specs.AddsLaws.{Adds-nil}
use Rattle.trace_lines.specs.Writing.{Adds}
use Rattle.rio_chars.specs.declared.chars.Char.{Char}
use Rattle.trace_lines.specs.declared.writer.TraceWriter.{TraceWriter}
use Rattle.link_port.specs.Ports.{PortState}
use Rattle.link_wires.specs.Wires.{fits, edited}
use Rattle.rio_chars.specs.declared.edit.Edit.{Edit}
use Rattle.link_machine.specs.Calls.{edited_from}
use Rattle.link_machine.specs.States.{Wires, link, wire_at}
use Rattle.fabric_script.specs.declared.ports.PortRef.{PortRef}
use Rattle.fabric_model.specs.Network.{same_port}
use Rattle.fabric_model.proofs.Peers.{port_is}
use Rattle.fabric_trace.specs.Fold.{changed, edited_by, seen}
use Rattle.fabric_trace.specs.Known.{Seen}
use Rattle.trace_lines.specs.Lines.{TraceLine, Begun}
use Rattle.fabric_trace.specs.Parts.{Done}
use Rattle.fabric_trace.specs.Parts.Part.{PartBegins}
use Rattle.fabric_trace.proofs.Parts.Making.{one_part}
use Rattle.fabric_script.specs.Operations.{line_editing}
use Rattle.fabric_ask.specs.Noise.{Gives, is_idle, edit_lines, stirred}
use Rattle.fabric_ask.proofs.Carrying.{edit_is}
use Rattle.fabric_ports.specs.Carrying.{Edits as EditsWire, Stirs}
use Rattle.fabric_ports.specs.Ends.{IsPlaceOf}
use Rattle.fabric_ports.specs.Ran.{Ran}
use Rattle.fabric_ports.specs.Showing.{ShowsFabric}
use Rattle.fabric_ports.specs.Standing.{Stands}
use Rattle.fabric_ports.specs.declared.answers.FabricEnd.{FabricEnd}
use Rattle.fabric_ports.specs.declared.answers.FabricEnd.TheVariants.{NoMemory}
use Rattle.fabric_ports.specs.declared.ends.LinkPlace.{LinkPlace}
use Rattle.fabric_ports.specs.declared.fabric.Cable.{Cable}
use Rattle.fabric_ports.specs.declared.fabric.Fabric.{Fabric}
use Rattle.fabric_ports.specs.declared.idle.Idle.{Idle}
use Rattle.fabric_ports.proofs.Cables.{WokeLink}
use Rattle.fabric_ports.proofs.EditLaws.{fabric_edited, edit_chars, edit_shows}
use Rattle.fabric_ports.proofs.RanLaws.{ran_nothing, ran_as}
use Rattle.fabric_ports.proofs.StandLaws.{stands_with}

-- ---- an edit that changes nothing

idle_changes : (edit : Edit) (chars : List Char) → is_idle edit ≡ true
    → edited edit chars ≡ chars
idle_changes (Edit.Alter place ch) chars idle = absurd cc
idle_changes (Edit.Insert place ch) chars idle = absurd cc
idle_changes (Edit.Erase place n) chars idle =
    let none : n ≡ 0 = eqb-true n 0 idle in
    let same : place + n ≡ place = omega (arith, none) in
    ap (λ k. take place chars ++ drop k chars) same ∙ take-append-drop place chars

idle_is : (b : Bool) → not b ≡ false → b ≡ true
idle_is true is = refl
idle_is false is = absurd cc

nothing_changes : (edit : Edit) (chars : List Char)
    → (fits edit chars && not (is_idle edit)) ≡ false → changed edit chars ≡ chars
nothing_changes edit chars is = by_fit (fits edit chars) is
  where
    by_fit : (fit : Bool) → (fit && not (is_idle edit)) ≡ false
        → (if fit then edited edit chars else chars) ≡ chars
    by_fit true is = idle_changes edit chars (idle_is (is_idle edit) is)
    by_fit false is = refl

-- what is known stays
still_known : (s : Seen) (p : PortRef) (edit : Edit)
    → changed edit (s.wires p).chars ≡ (s.wires p).chars → edited_by s (Some (p, edit)) ≡ s
still_known s p edit same = λ i. record s { wires = λ q. wire q i }
  where
    wire : (q : PortRef) → (if same_port q p
        then record (s.wires p) { chars = changed edit (s.wires p).chars } else s.wires q)
        ≡ s.wires q
    wire q = by_same (same_port q p) refl
      where
        by_same : (own : Bool) → same_port q p ≡ own → (if own
            then record (s.wires p) { chars = changed edit (s.wires p).chars } else s.wires q)
            ≡ s.wires q
        by_same true is = (λ i. record (s.wires p) { chars = same i })
            ∙ ap s.wires (sym (port_is q p is))
        by_same false is = refl

-- ---- an edit

edit_stands : (p : PortRef) (edit : Edit) {from : Seen} {lines : List TraceLine}
    {old new : Fabric} (does : Bool)
    → (fits edit ((seen from lines).wires p).chars && not (is_idle edit)) ≡ does
    → Stands from lines old → ShowsFabric new (edited_by (seen from lines) (Some (p, edit)))
    → Stands from (lines ++ (if does then Begun (line_editing p edit) ∷ [] else [])) new
edit_stands p edit {from = from} {lines = lines} {new = new} true is stands shows =
    let begun = ap (edited_by (seen from lines)) (edit_is p edit) in
    stands_with stands (one_part (PartBegins (line_editing p edit) refl))
    (ap (λ (t : Seen). t.undetected) begun ∙ stands.sent)
    (subst (ShowsFabric new) (sym begun) shows)
edit_stands p edit {from = from} {lines = lines} {new = new} false is stands shows =
    let same = still_known (seen from lines) p edit
    (nothing_changes edit ((seen from lines).wires p).chars is) in
    stands_with stands (Done refl) stands.sent (subst (ShowsFabric new) same shows)

-- the written lines are those of the edit, and the fabric stands for the lines with them
pub edit_ran : {K : Type 0} {fabric : Fabric} {port : PortRef} {place : LinkPlace}
    (p : IsPlaceOf fabric port place) {cable : Cable}
    → (met : cable ≡ slice_index_or fabric.cables.items place.cable cable) → (edit : Edit)
    → (wires : Wires)
    → ((x y : PortState) → link wires x y ≡ edited_from place.side edit (link cable.link x y))
    → {idle : Idle} → WokeLink fabric place.cable cable idle → (old new : TraceWriter K)
    → Adds old new (edit_lines port edit (wire_at place.side cable.link).chars)
    → (from : Seen) (lines : List TraceLine) → Stands from lines fabric
    → Ran (EditsWire port edit) old new from lines
    (Ok (fabric_edited fabric place.cable cable wires idle))
edit_ran {fabric = fabric} {port = port} {place = place} p {cable = cable} met edit wires becomes
    {idle = idle} woke old new adds
    from lines stands =
    let s = seen from lines in
    let chars = edit_chars fabric port place p cable met stands in
    record {
      block = edit_lines port edit (s.wires port).chars;
      is = refl;
      ends = (
        subst (λ l. Adds old new (edit_lines port edit l)) chars adds,
        edit_stands port edit (fits edit (s.wires port).chars && not (is_idle edit)) refl stands
            (edit_shows fabric port place p cable met edit wires idle woke becomes from lines
            stands),
      );
    }

-- nothing of it is written
pub edit_short : {K : Type 0} (port : PortRef) (edit : Edit) (writer : TraceWriter K) (from : Seen)
    (lines : List TraceLine)
    → Ran (EditsWire port edit) writer writer from lines (Err NoMemory)
edit_short port edit writer from lines =
    let block = edit_lines port edit ((seen from lines).wires port).chars in
    record {
      block = block;
      is = refl;
      ends = record {
        front = [];
        rest = block;
        adds = Adds-nil writer;
        whole = refl;
      };
    }

-- ---- the next edit

none_stirred : (noise : List Edit) (p : PortRef) (chars : List Char) → chars ≡ []
    → ([], noise) ≡ stirred noise p chars
none_stirred [] p chars none = refl
none_stirred (edit ∷ noise) p chars none =
    ap (stirred (edit ∷ noise) p) (sym none)

empty : {X : Type 0} (xs : List X) → length xs ≡ 0 → xs ≡ []
empty [] none = refl
empty (x ∷ xs) none = absurd (omega (arith, none))

edit_stirred : (noise left : List Edit) (edit : Edit) (p : PortRef) (chars : List Char)
    (lines : List TraceLine) → 0 < length chars → Gives noise (Some edit) left
    → lines ≡ edit_lines p edit chars → (lines, left) ≡ stirred noise p chars
edit_stirred noise left edit p [] lines some gives is = absurd (omega (arith, some))
edit_stirred noise left edit p (c ∷ chars) lines some gives is =
    (λ i. (is i, left)) ∙ ap (λ (n : List Edit). stirred n p (c ∷ chars)) (sym gives)

module _ {K : Type 0} (port : PortRef) (noise left : List Edit) where
  -- the wire has no characters
  pub stir_empty : (out : TraceWriter K) {from : Seen} {lines : List TraceLine} {fabric : Fabric}
      → left ≡ noise → length ((seen from lines).wires port).chars ≡ 0 → Stands from lines fabric
      → Ran (Stirs port noise left) out out from lines (Ok fabric)
  stir_empty out {from = from} {lines = lines} same none stands =
      let chars = ((seen from lines).wires port).chars in
      ran_as (λ block nothing. (λ i. (nothing i, same i))
      ∙ none_stirred noise port chars (empty chars none)) (ran_nothing out stands)

  -- no edit is left
  pub stir_none : (out : TraceWriter K) {from : Seen} {lines : List TraceLine} {fabric : Fabric}
      → Gives noise None left → Stands from lines fabric
      → Ran (Stirs port noise left) out out from lines (Ok fabric)
  stir_none out {from = from} {lines = lines} gives stands =
      let chars = ((seen from lines).wires port).chars in
      ran_as (λ block nothing. (λ i. (nothing i, gives.1 i))
      ∙ ap (λ (n : List Edit). stirred n port chars) (sym gives.0)) (ran_nothing out stands)

  -- the edit that was given is made
  pub stir_some : {a b : TraceWriter K} {from : Seen} {lines : List TraceLine}
      {end : Result Fabric FabricEnd} (edit : Edit) → Gives noise (Some edit) left
      → 0 < length ((seen from lines).wires port).chars
      → Ran (EditsWire port edit) a b from lines end
      → Ran (Stirs port noise left) a b from lines end
  stir_some {from = from} {lines = lines} edit gives some ran =
      ran_as
      (λ block is. edit_stirred noise left edit port ((seen from lines).wires port).chars block some
      gives is) ran
