-- Every part of a trace is legal and keeps the links sound.
use Rattle.fabric_trace.proofs.Prelude.{◌≡◌, ℕ, ◌+◌, ◌<◌, ◌++◌, map, IsTrue, ◌∙◌, Bool, true, false, List, [], ◌∷◌, Option, Some, None, refl, sym, ap, subst, if◌then◌else◌, Char, prio_of, Passes, Port, moved, request_of, Side, A, Edit, LinkState, sent_notes, pump_notes, is_silent, time_out_notes, has_chars, delivery_notes, tell_notes, bursts, PortRef, Network, port_of, room_out, with_device, device_after, AreProper, ByPriority, legal_joined, links_stay, AreWell, well_on, well_priority, well_passes, ArePeers, peer_back, TraceLine, Stepped, steps_of, Seen, UndetectedAt, peer_of, link_at, edit_of, edited_by, seen_line, seen, lines_of, AreLinks, packet_of, Part, PartBegins, PartLacks, PartEnds, PartNames, PartSteps, PartServes, PartTurns, PartTells, PartDelivers, PartFires, Made, Done, Then, tell_sends}
use Rattle.link_watch.specs.declared.note.Note.TheVariants as Notes
use Rattle.fabric_model.specs.Steps.{Take, Leave, NodeStep, Move, Drop, Answer, DeviceStep, Step, AtNode, ByDevice, Needs, IsFirst, only_first, moved_item, item_of, without_first, with_waiting, after, LegalFrom}
use Rattle.fabric_model.proofs.Moving.{moves_on, named_goes, sent_by}
use Rattle.fabric_model.proofs.Boards.{first_item}
use Rattle.fabric_trace.proofs.Links.Calling.{IsCall, turns_call, tells_call, fires_call}
use Rattle.fabric_trace.proofs.Links.Delivering.{delivers_call}
use Rattle.fabric_trace.proofs.Parts.Folding.{seen-append, edited_net}
use Rattle.fabric_trace.proofs.Links.Serving.{apart_peer, by_pair, edited_link, with_more, fewer_links, more_links}
pub use Rattle.fabric_model.proofs.Nodes.{few_prio}

pub steps_of-append : (xs ys : List TraceLine) → steps_of (xs ++ ys) ≡ steps_of xs ++ steps_of ys
steps_of-append [] ys = refl
steps_of-append (Stepped step ∷ xs) ys =
    ap (λ (steps : List Step). step ∷ steps) (steps_of-append xs ys)
steps_of-append (_ ∷ xs) ys = steps_of-append xs ys

-- What stays true along a trace: all that the network holds is in its link form, in a list of its
-- own priority; its links are proper; and they are sound while every event that was acted on was
-- sent.
pub record IsGood (s : Seen) : Type 0 where
  pub well : AreWell s.network
  pub proper : AreProper s.network.links
  pub links : s.undetected ≡ None → AreLinks s

pub good_peers : {s : Seen} (p q : PortRef) → IsGood s → peer_of s p ≡ Some q
    → ArePeers s.network.links p q
good_peers {s} p q good peer = record {
  apart = apart_peer s.network.links p q good.proper peer;
  there = peer;
  back = peer_back s.network.links q p good.proper peer;
}

pub legal_links : (net : Network) (steps : List Step) (end : Network) → LegalFrom net steps end
    → end.links ≡ net.links
legal_links net [] end legal = ap (λ (n : Network). n.links) legal
legal_links net (step ∷ steps) end legal =
    legal_links (after net step) steps end legal.1 ∙ links_stay net step

-- lines are legal, and what they lead to is good
pub record IsKept (s : Seen) (lines : List TraceLine) : Type 0 where
  pub legal : LegalFrom s.network (steps_of lines) (seen s lines).network
  pub good : IsGood (seen s lines)

-- ---- calls at a link

sent_no_steps : (a b : PortRef) (side : Side) (chars : List Char)
    → steps_of (lines_of a b (sent_notes side chars)) ≡ []
sent_no_steps a b side [] = refl
sent_no_steps a b side (c ∷ chars) = refl

fired_no_steps : (a b : PortRef) (silent : Bool)
    → steps_of (lines_of a b (if silent then Notes.Fire A ∷ [] else [])) ≡ []
fired_no_steps a b true = refl
fired_no_steps a b false = refl

call_keeps : (s : Seen) (lines : List TraceLine) (p q : PortRef) (steps : List Step) (m : LinkState)
    (found : Option UndetectedAt) → IsGood s → s.undetected ≡ None
    → ArePeers s.network.links p q → steps_of lines ≡ steps
    → IsCall s (seen s lines) p q steps m found → IsKept s lines
call_keeps s lines p q steps m found good none peers is call =
    let legal =
    subst (λ (x : List Step). LegalFrom s.network x (seen s lines).network) (sym is) call.legal in
    record {
      legal = legal;
      good = record {
        well = well_on s.network (steps_of lines) (seen s lines).network good.well legal;
        proper = subst AreProper (sym call.elsewhere.links) good.proper;
        links = λ still. by_pair s (seen s lines) p q good.proper call.elsewhere.links peers
            (call.link still)
            (λ c x y. record {
              lists = call.elsewhere.others c x y;
              wire = call.wires c x y;
              half = call.halves c x y;
            }) (good.links none);
      };
    }

turns_keep : (s : Seen) (p q : PortRef) (n : ℕ) → IsGood s → peer_of s p ≡ Some q
    → s.undetected ≡ None → IsKept s (lines_of p q (pump_notes A n (link_at s p q)))
turns_keep s p q n good peer none =
    let peers = good_peers p q good peer in
    call_keeps s _ p q [] _ _ good none peers
    (sent_no_steps p q A (bursts n (link_at s p q).a).chars)
    (turns_call s p q n peers (good.links none p q peer))

tells_keep : (s : Seen) (p q : PortRef) → IsGood s → peer_of s p ≡ Some q → s.undetected ≡ None
    → IsKept s (lines_of p q (tell_notes A (link_at s p q)))
tells_keep s p q good peer none =
    let peers = good_peers p q good peer in
    call_keeps s _ p q [] _ _ good none peers
    (sent_no_steps p q A (tell_sends (link_at s p q).a).chars)
    (tells_call s p q peers (good.links none p q peer))

fires_keep : (s : Seen) (p q : PortRef) → IsGood s → peer_of s p ≡ Some q → s.undetected ≡ None
    → is_silent (link_at s p q) ≡ true
    → IsKept s (lines_of p q (time_out_notes A (link_at s p q)))
fires_keep s p q good peer none silent =
    let peers = good_peers p q good peer in
    call_keeps s _ p q [] _ _ good none peers (fired_no_steps p q (is_silent (link_at s p q)))
    (fires_call s p q peers (good.links none p q peer) silent)

delivers_keep : (s : Seen) (p q : PortRef) (n : ℕ) → IsGood s → peer_of s p ≡ Some q
    → s.undetected ≡ None → has_chars A n (link_at s p q) ≡ true
    → IsKept s (lines_of p q (delivery_notes A n (link_at s p q)))
delivers_keep s p q n good peer none has =
    let peers = good_peers p q good peer in
    call_keeps s _ p q _ _ _ good none peers refl
    (delivers_call s p q n peers (good.links none p q peer) has)

-- ---- edits and steps at nodes

edit_keeps : (s : Seen) (edit : Option (PortRef × Edit)) → IsGood s → IsGood (edited_by s edit)
edit_keeps s None good = good
edit_keeps s (Some edit) good = record {
  well = good.well;
  proper = good.proper;
  links = λ none a b peer. edited_link s edit.0 edit.1 a b (good.links none a b peer);
}

-- a step that leaves links sound
step_keeps : (s : Seen) (step : Step) → IsGood s → Needs s.network step
    → (AreLinks s → AreLinks (seen_line s (Stepped step)))
    → (after s.network step).links ≡ s.network.links → IsKept s (Stepped step ∷ [])
step_keeps s step good needs links same = record {
  legal = (needs, refl);
  good = record {
    well = well_on s.network (step ∷ []) (after s.network step) good.well (needs, refl);
    proper = subst AreProper (sym same) good.proper;
    links = λ none. links (good.links none);
  };
}

node_keeps : (s : Seen) (step : NodeStep) → IsGood s → Needs s.network (AtNode step)
    → prio_of (packet_of step) < 4 → IsKept s (Stepped (AtNode step) ∷ [])
node_keeps s (Take n packet) good needs few =
    step_keeps s (AtNode (Take n packet)) good needs
    (more_links s (port_of n) (item_of s.network (port_of n) packet) (s.network.given + 1)
    s.network.registers good.proper few needs.1 needs.2) refl
node_keeps s (Leave n packet) good needs few =
    step_keeps s (AtNode (Leave n packet)) good needs
    (fewer_links s (port_of n) packet good.proper few needs.1) refl

-- a packet that a port has received first is one in its link form
pub passes_first : (s : Seen) → IsGood s → (p : PortRef) (packet : List ℕ)
    → IsFirst s.network p packet → Passes packet
passes_first s good p packet first = well_passes s.network good.well p (prio_of packet) packet first

-- a packet moves to another port of a switch, or to the same
move_links : (s : Seen) (p q : PortRef) (packet : List ℕ) → AreProper s.network.links
    → Passes packet → Needs s.network (ByDevice (Move p q packet)) → AreLinks s
    → AreLinks (seen_line s (Stepped (ByDevice (Move p q packet))))
move_links s p q packet proper passes needs are =
    let r = prio_of packet in
    let net = s.network in
    let s1 : Seen = record s { network = without_first s.network p (prio_of packet) } in
    let first = first_item (net.received p r) packet needs.1 in
    let sent = sent_by net p.node packet (Port q.port) needs.2 in
    let on = moves_on packet passes (named_goes sent.device packet q.port sent.sends) in
    let now : moved first.item.now ≡ moved packet = ap moved first.now in
    let prio : prio_of (moved first.item.now) ≡ prio_of packet = ap prio_of now ∙ on.prio in
    let few : prio_of (moved first.item.now) < 4 = few_prio _ (subst Passes (sym now) on.passes) in
    let only : only_first (map moved_item (net.received p r)) ≡ moved_item first.item ∷ [] =
    ap (λ xs. only_first (map moved_item xs)) first.whole in
    let there : with_more s1.network q (moved_item first.item) net.given net.registers
    ≡ (after net (ByDevice (Move p q packet))) =
    λ i. with_waiting (without_first net p r) q (prio i) (sym only i) in
    subst (λ (n : Network). AreLinks (record s { network = n })) there
    (more_links s1 q (moved_item first.item) net.given net.registers proper few
    (subst Passes (sym now) on.passes) (subst (λ k. IsTrue (room_out net q k)) (sym prio) needs.3)
    (fewer_links s p packet proper (few_prio packet passes) needs.1 are))

answer_links : (s : Seen) (p : PortRef) (packet response : List ℕ) → AreProper s.network.links
    → Passes packet → Needs s.network (ByDevice (Answer p packet response)) → AreLinks s
    → AreLinks (seen_line s (Stepped (ByDevice (Answer p packet response))))
answer_links s p packet response proper passes needs are =
    let s1 : Seen = record s { network = without_first s.network p (prio_of packet) } in
    more_links s1 p (item_of s.network p response) (s.network.given + 1)
    (with_device s.network.registers p.node (device_after p.port (request_of packet))) proper
    (few_prio response needs.3) needs.3 needs.4
    (fewer_links s p packet proper (few_prio packet passes) needs.0 are)

device_keeps : (s : Seen) (step : DeviceStep) → IsGood s → Needs s.network (ByDevice step)
    → IsKept s (Stepped (ByDevice step) ∷ [])
device_keeps s (Move p q packet) good needs =
    step_keeps s (ByDevice (Move p q packet)) good needs
    (move_links s p q packet good.proper (passes_first s good p packet needs.1) needs) refl
device_keeps s (Drop p packet) good needs =
    step_keeps s (ByDevice (Drop p packet)) good needs
    (fewer_links s p packet good.proper (few_prio packet (passes_first s good p packet needs.0))
    needs.0) refl
device_keeps s (Answer p packet response) good needs =
    step_keeps s (ByDevice (Answer p packet response)) good needs
    (answer_links s p packet response good.proper (passes_first s good p packet needs.0) needs) refl

-- ---- parts

kept_by : {s : Seen} {lines other : List TraceLine} → lines ≡ other → IsKept s other
    → IsKept s lines
kept_by {s} is kept = subst (IsKept s) (sym is) kept

pub part_keeps : {s : Seen} {lines : List TraceLine} → IsGood s → Part s lines → IsKept s lines
part_keeps {s} good (PartBegins line is) =
    kept_by is (record {
      legal = edited_net s (edit_of line);
      good = edit_keeps s (edit_of line) good;
    })
part_keeps {s} good (PartLacks lack is) = kept_by is (record { legal = refl; good = good })
part_keeps {s} good (PartEnds is) = kept_by is (record { legal = refl; good = good })
part_keeps {s} good (PartNames number q e found is) =
    kept_by is (record { legal = refl; good = good })
part_keeps {s} good (PartSteps step needs few is) = kept_by is (node_keeps s step good needs few)
part_keeps {s} good (PartServes step needs is) = kept_by is (device_keeps s step good needs)
part_keeps {s} good (PartTurns p q n peer none is) = kept_by is (turns_keep s p q n good peer none)
part_keeps {s} good (PartTells p q peer none is) = kept_by is (tells_keep s p q good peer none)
part_keeps {s} good (PartDelivers p q n peer none has is) =
    kept_by is (delivers_keep s p q n good peer none has)
part_keeps {s} good (PartFires p q peer none silent is) =
    kept_by is (fires_keep s p q good peer none silent)

-- all parts
pub made_keeps : {s : Seen} {lines : List TraceLine} → IsGood s → Made s lines → IsKept s lines
made_keeps {s} good (Done is) = kept_by is (record { legal = refl; good = good })
made_keeps {s} good (Then first rest is own more) =
    let one = part_keeps good own in
    let two = made_keeps one.good more in
    let t = seen-append s first rest in
    kept_by is (record {
      legal = subst (λ (x : List Step). LegalFrom s.network x (seen s (first ++ rest)).network)
          (sym (steps_of-append first rest))
          (subst (λ (x : Seen). LegalFrom s.network (steps_of first ++ steps_of rest) x.network)
          (sym t)
          (legal_joined s.network (steps_of first) (steps_of rest) (seen s first).network
          (seen (seen s first) rest).network one.legal two.legal));
      good = subst IsGood (sym t) two.good;
    })

pub good_by_priority : {s : Seen} → IsGood s → ByPriority s.network
good_by_priority {s} good = well_priority s.network good.well
