-- What an event at a link writes, and for which lines the fabric stands then.
use Rattle.std.proofs.Common.{◌≡◌, List, [], ◌∷◌, ◌++◌, Some, Ok, Err, slice_get, refl, sym, ap, ◌∙◌, subst}
use Rattle.trace_lines.specs.Writing.{Adds}
use Rattle.trace_lines.specs.declared.writer.TraceWriter.{TraceWriter}
use Rattle.trace_lines.specs.AddsLaws.{Adds-nil, Adds-then}
use Rattle.trace_lines.specs.WatchingLaws.{notes_uncounted}
use Rattle.link_model.specs.declared.event.Event.{Event}
use Rattle.link_port.specs.Ports.{PortState}
use Rattle.link_watch.specs.Stops.{CutAtFirst}
use Rattle.link_watch.specs.declared.note.Note.{Note}
use Rattle.link_watch.specs.declared.side.Side.{Side}
use Rattle.link_machine.specs.Sound.{IsSoundLink}
use Rattle.link_machine.specs.States.{Wires, LinkState, link}
use Rattle.link_machine.specs.Acts.{Act, At, FoundAt, goes, acts_notes}
use Rattle.link_law.specs.Does.{Comes, Stops}
use Rattle.fabric_script.specs.declared.ports.PortRef.{PortRef}
use Rattle.fabric_model.specs.Network.{link_in}
use Rattle.fabric_model.proofs.Peers.{some_is, ArePeers, link_peers}
use Rattle.fabric_trace.specs.Fold.{seen}
use Rattle.fabric_trace.specs.Known.{Seen, port_seen, link_at}
use Rattle.trace_lines.specs.Lines.{TraceLine}
use Rattle.fabric_trace.specs.Parts.{Made}
use Rattle.trace_lines.specs.Notes.{port_at_side, lines_of}
use Rattle.fabric_trace.specs.Blocks.{IsBlock}
use Rattle.fabric_trace.proofs.Parts.Folding.{seen-append, lines-append}
use Rattle.fabric_trace.proofs.Traces.Existing.{good_of}
use Rattle.fabric_trace.proofs.Parts.Keeping.{IsGood, made_keeps}
use Rattle.fabric_trace.proofs.Parts.Making.{Reaches}
use Rattle.fabric_trace.proofs.Rounds.Running.{acts_reach, block_made}
use Rattle.rio_chars.specs.Written.{Outgoing}
use Rattle.rio_chars.specs.declared.sink.Sink.{Ghosts}
use Rattle.trace_lines.specs.Watching.{WritesNotes}
use Rattle.trace_lines.specs.declared.watching.LinkLines.{LinkLines}
use Rattle.fabric_script.specs.Operations.{line_for}
use Rattle.fabric_ports.specs.Acting.{part_of, answer_of, lack_lines}
use Rattle.fabric_ports.specs.Ends.{IsPlaceOf}
use Rattle.fabric_ports.specs.Places.{place_of}
use Rattle.fabric_ports.specs.Ran.{Ran, Blocks}
use Rattle.fabric_ports.specs.Showing.{ShowsFabric}
use Rattle.fabric_ports.specs.Standing.{Stands}
use Rattle.fabric_ports.specs.declared.actions.Acted.{Acted}
use Rattle.fabric_ports.specs.declared.actions.Acted.TheVariants.{Done}
use Rattle.fabric_script.specs.declared.operations.Action.{Action}
use Rattle.fabric_ports.specs.declared.answers.FabricEnd.TheVariants.{Undetected, NoMemory}
use Rattle.fabric_ports.specs.declared.ends.LinkPlace.{LinkPlace}
use Rattle.fabric_ports.specs.declared.fabric.Cable.{Cable}
use Rattle.fabric_ports.specs.declared.fabric.Fabric.{Fabric}
use Rattle.fabric_ports.proofs.BlockLaws.{block_of, lack_seen, begun_same, block_is, found_done}
use Rattle.fabric_ports.proofs.Cables.{IsChanged, changed_shows, notes_registers}
use Rattle.fabric_ports.proofs.EndLaws.{cable_shown}
use Rattle.fabric_ports.proofs.RanLaws.{front_on}
use Rattle.fabric_ports.proofs.StandLaws.{stands_with}

-- ---- the link, before

-- what is known of a link that stands at this place
pub record IsKnown (from : Seen) (lines : List TraceLine) (fabric : Fabric) (port : PortRef)
    (place : LinkPlace) (d : Cable) (x y : PortState) : Type 0 where
  pub stands : Stands from lines fabric
  pub at : slice_get fabric.cables.items place.cable ≡ Some d
  pub found : link_in (seen from lines).network.links port ≡ Some (d.a, d.b)
  pub end : port ≡ port_at_side d.a d.b place.side
  pub first : place.a ≡ place_of fabric.firsts.items d.a
  pub second : place.b ≡ place_of fabric.firsts.items d.b
  pub good : IsGood (seen from lines)
  pub peers : ArePeers (seen from lines).network.links d.a d.b
  pub shown : link d.link x y ≡ link_at (seen from lines) d.a d.b

pub known : {from : Seen} {lines : List TraceLine} {fabric : Fabric} {port : PortRef}
    {place : LinkPlace} (x y : PortState) → Stands from lines fabric
    → (p : IsPlaceOf fabric port place)
    → slice_get fabric.ports.items place.a ≡ Some x → slice_get fabric.ports.items place.b ≡ Some y
    → IsKnown from lines fabric port place p.is.cable x y
known {from} {lines} {fabric} {port} {place} x y stands p at_x at_y =
    let s = seen from lines in
    let d = p.is.cable in
    let good = (made_keeps (good_of stands.ready) stands.made).good in
    let found = subst (λ (l : List (PortRef × PortRef)). link_in l port ≡ Some (d.a, d.b))
    stands.shows.links p.is.found in
    let shown = cable_shown place.cable d stands p.is.at in
    let own_x : x
    ≡ port_seen s d.a = some_is (slice_get fabric.ports.items place.a) x (port_seen s d.a)
    at_x (ap (slice_get fabric.ports.items) p.first ∙ stands.shows.ports d.a shown.port_a) in
    let own_y : y
    ≡ port_seen s d.b = some_is (slice_get fabric.ports.items place.b) y (port_seen s d.b)
    at_y (ap (slice_get fabric.ports.items) p.second ∙ stands.shows.ports d.b shown.port_b) in
    record {
      stands = stands;
      at = p.is.at;
      found = found;
      end = p.is.end;
      first = p.first;
      second = p.second;
      good = good;
      peers = link_peers s.network.links port (d.a, d.b) good.proper found;
      shown = λ i. link (shown.wires i) (own_x i) (own_y i);
    }

-- it is sound
pub known_sound : {from : Seen} {lines : List TraceLine} {fabric : Fabric} {port : PortRef}
    {place : LinkPlace} {d : Cable} {x y : PortState} → IsKnown from lines fabric port place d x y
    → IsSoundLink (link d.link x y)
known_sound {from} {lines} {d = d} k =
    subst IsSoundLink (sym k.shown) (k.good.links k.stands.sent d.a d.b k.peers.there).sound

-- ---- what is done

known_block : {from : Seen} {lines : List TraceLine} {fabric : Fabric} {port : PortRef}
    {place : LinkPlace} {d : Cable} {x y : PortState} (action : Action) (all : List Act)
    → IsKnown from lines fabric port place d x y
    → part_of place.side action (At (link d.link x y)) all
    → IsBlock (seen from lines) (line_for port action)
    (block_of d.a d.b (link d.link x y) all (answer_of place.side action (link d.link x y)))
known_block {from} {lines} {fabric} {port} {place} {d} {x} {y} action all k part =
    let s = seen from lines in
    let found = subst (λ (p : PortRef). link_in s.network.links p ≡ Some (d.a, d.b)) k.end
    k.found in
    subst (λ (p : PortRef). IsBlock s (line_for p action)
    (block_of d.a d.b (link d.link x y) all (answer_of place.side action (link d.link x y))))
    (sym k.end)
    (subst (λ (l : LinkState). IsBlock s (line_for (port_at_side d.a d.b place.side) action)
    (block_of d.a d.b l all (answer_of place.side action l))) (sym k.shown)
    (block_is s d.a d.b place.side action all k.peers found
    (subst (λ (l : LinkState). part_of place.side action (At l) all) k.shown part)))

known_reaches : {from : Seen} {lines : List TraceLine} {fabric : Fabric} {port : PortRef}
    {place : LinkPlace} {d : Cable} {x y : PortState} (all : List Act)
    → IsKnown from lines fabric port place d x y
    → Reaches (seen from lines) d.a d.b
    (lines_of d.a d.b (acts_notes (At (link d.link x y)) all)) (goes (At (link d.link x y)) all)
known_reaches {from} {lines} {d = d} {x} {y} all k =
    let s = seen from lines in
    subst (λ (l : LinkState). Reaches s d.a d.b (lines_of d.a d.b (acts_notes (At l) all))
    (goes (At l) all)) (sym k.shown)
    (acts_reach all s d.a d.b k.good k.stands.sent k.peers)

-- the fabric stands for the lines with the block
known_stands : {from : Seen} {lines : List TraceLine} {fabric new : Fabric} {port : PortRef}
    {place : LinkPlace} {d : Cable} {x y : PortState} (action : Action) (all : List Act)
    {wires : Wires} {x2 y2 : PortState} → IsKnown from lines fabric port place d x y
    → part_of place.side action (At (link d.link x y)) all
    → goes (At (link d.link x y)) all ≡ At (link wires x2 y2)
    → IsChanged fabric new place.cable d wires x2 y2
    → Stands from (lines ++ block_of d.a d.b (link d.link x y) all
    (answer_of place.side action (link d.link x y))) new
known_stands {from} {lines} {fabric} {new} {port} {place} {d} {x} {y} action all {wires = wires}
    {x2 = x2} {y2 = y2} k part
    reached changed =
    let s = seen from lines in
    let l = link d.link x y in
    let answer = answer_of place.side action l in
    let noted = lines_of d.a d.b (acts_notes (At l) all) in
    let block = block_of d.a d.b l all answer in
    let same : seen s block ≡ seen s noted = lack_seen s noted answer in
    let reaches = known_reaches all k in
    let t = seen s noted in
    let there = reaches.there (link wires x2 y2) reached in
    let shows = changed_shows fabric new s t place.cable d wires x2 y2 k.stands.shows k.at changed
    k.good.proper reaches.others (notes_registers s d.a d.b (acts_notes (At l) all)) there.1 in
    let made = subst (λ (z : Seen). Made z block) (begun_same s port action)
    (block_made (line_for port action) s block k.good k.stands.sent
    (known_block action all k part)) in
    stands_with k.stands made (ap (λ (z : Seen). z.undetected) same ∙ there.0)
    (subst (ShowsFabric new) (sym same) shows)

-- the event that was not sent is known
known_found : {from : Seen} {lines : List TraceLine} {fabric : Fabric} {port : PortRef}
    {place : LinkPlace} {d : Cable} {x y : PortState} (all : List Act) (side : Side) (e : Event)
    (answer : Acted) → IsKnown from lines fabric port place d x y
    → goes (At (link d.link x y)) all ≡ FoundAt side e
    → (seen from (lines ++ block_of d.a d.b (link d.link x y) all answer)).undetected
    ≡ Some (record { port = port_at_side d.a d.b side; event = e })
known_found {from} {lines} {d = d} {x} {y} all side e answer k reached =
    let s = seen from lines in
    let l = link d.link x y in
    let noted = lines_of d.a d.b (acts_notes (At l) all) in
    ap (λ (z : Seen). z.undetected)
    (seen-append from lines (block_of d.a d.b l all answer) ∙ lack_seen s noted answer)
    ∙ (known_reaches all k).found side e reached

-- ---- what is written

-- a watch has the outbox and the names of a writer, and these ends
pub record IsLent {K : Type 0} {S : Ghosts K} (writer : TraceWriter K) (watch : LinkLines K S)
    (a b : PortRef) : Type 0 where
  pub outbox : watch.outbox.now ≡ writer.outbox.now
  pub names : watch.names.now ≡ writer.names.now
  pub first_end : watch.a ≡ a
  pub second_end : watch.b ≡ b

-- the writer, whose outbox came back so
abbrev pub back : {K : Type 0} → TraceWriter K → Outgoing → TraceWriter K
back writer out = record writer { outbox = record writer.outbox { now = out } }

told_as : {K : Type 0} {S : Ghosts K} {writer : TraceWriter K} {before after : LinkLines K S}
    {a b : PortRef} {notes : List Note} → IsLent writer before a b
    → WritesNotes before notes after
    → Adds writer (back writer after.outbox.now) (lines_of a b notes)
told_as {writer = writer} {a = a} {b} {notes} lent told = record {
  same = refl;
  names = refl;
  writes = rw (sym lent.outbox, sym lent.names, sym lent.first_end, sym lent.second_end)
      told.lines.writes;
  counts = sym (notes_uncounted writer.counts a b notes);
}

-- the whole block was written
pub link_blocked : {K : Type 0} {S : Ghosts K} {from : Seen} {lines : List TraceLine}
    {fabric new : Fabric} {port : PortRef} {place : LinkPlace} {d : Cable} {x y : PortState}
    (action : Action) {wires : Wires} {x2 y2 : PortState} {before : LinkLines K S}
    (after : LinkLines K S)
    {writer last : TraceWriter K} (answer : Acted) → IsKnown from lines fabric port place d x y
    → Comes WritesNotes (part_of place.side action) (link d.link x y) before
    (At (link wires x2 y2)) after
    → answer ≡ answer_of place.side action (link d.link x y)
    → IsLent writer before d.a d.b → Adds (back writer after.outbox.now) last (lack_lines answer)
    → IsChanged fabric new place.cable d wires x2 y2
    → Ran (Blocks (line_for port action)) writer last from lines (Ok new)
link_blocked {place = place} {d} {x} {y} action after {writer = writer} {last = last} answer k comes
    answered lent lacks changed =
    let l = link d.link x y in
    record {
      block = block_of d.a d.b l comes.acts (answer_of place.side action l);
      is = known_block action comes.acts k comes.part;
      ends = (
        Adds-then (told_as lent comes.grown)
            (subst (λ (z : Acted). Adds (back writer after.outbox.now) last (lack_lines z))
            answered lacks),
        known_stands action comes.acts k comes.part comes.reached changed,
      );
    }

-- it was written up to an event that was not sent
pub link_exposed : {K : Type 0} {S : Ghosts K} {from : Seen} {lines : List TraceLine}
    {fabric : Fabric} {port : PortRef} {place : LinkPlace} {d : Cable} {x y : PortState}
    (action : Action) (side : Side) (e : Event) {before : LinkLines K S} (after : LinkLines K S)
    {writer : TraceWriter K}
    → IsKnown from lines fabric port place d x y
    → Comes WritesNotes (part_of place.side action) (link d.link x y) before (FoundAt side e) after
    → IsLent writer before d.a d.b
    → Ran (Blocks (line_for port action)) writer (back writer after.outbox.now) from lines
    (Err (Undetected (port_at_side d.a d.b side) e))
link_exposed {from = from} {lines} {port = port} {place} {d} {x} {y} action side e after
    {writer = writer} k comes lent =
    let l = link d.link x y in
    let full = found_done place.side action l comes.acts side e comes.part comes.reached in
    record {
      block = block_of d.a d.b l comes.acts Done;
      is = subst (λ (z : Acted). IsBlock (seen from lines) (line_for port action)
          (block_of d.a d.b l comes.acts z)) full (known_block action comes.acts k comes.part);
      ends = (
        Adds-then (told_as lent comes.grown) (Adds-nil (back writer after.outbox.now)),
        known_found comes.acts side e Done k comes.reached,
      );
    }

pub nothing_cut : {W : Type 0} (mid new : W) (rest : List Note)
    → CutAtFirst (λ watch note next. next ≡ watch) mid rest new → new ≡ mid
nothing_cut mid new [] cut = cut
nothing_cut mid new (note ∷ rest) cut = cut

-- a front of it was written
pub link_cut : {K : Type 0} {S : Ghosts K} {from : Seen} {lines : List TraceLine}
    {fabric : Fabric} {port : PortRef} {place : LinkPlace} {d : Cable} {x y : PortState}
    (action : Action) {before : LinkLines K S} (after : LinkLines K S) {writer : TraceWriter K}
    → IsKnown from lines fabric port place d x y
    → Stops WritesNotes (λ watch note next. next ≡ watch) (part_of place.side action)
    (link d.link x y) before after
    → IsLent writer before d.a d.b
    → Ran (Blocks (line_for port action)) writer (back writer after.outbox.now) from lines
    (Err NoMemory)
link_cut {place = place} {d} {x} {y} action after {writer = writer} k stops lent =
    let l = link d.link x y in
    let s = stops.stopped in
    let answer = answer_of place.side action l in
    record {
      block = block_of d.a d.b l stops.acts answer;
      is = known_block action stops.acts k stops.part;
      ends = front_on (lack_lines answer) (record {
        front = lines_of d.a d.b s.front;
        rest = lines_of d.a d.b s.rest;
        adds = subst
            (λ w. Adds writer (back writer w.outbox.now) (lines_of d.a d.b s.front))
            (sym (nothing_cut s.mid after s.rest s.cut_at)) (told_as lent s.grown);
        whole = ap (λ (notes : List Note). lines_of d.a d.b notes) s.whole
            ∙ lines-append d.a d.b s.front s.rest;
      });
    }
