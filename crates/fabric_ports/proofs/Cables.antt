-- A fabric of which one link and its ports have changed shows what is known then.
use Rattle.std.proofs.Common.{◌≡◌, ◌≢◌, ◌⊎◌, inl, inr, ℕ, zero, suc, ◌<◌, ◌==◌, ◌++◌, filter, Bool, true, false, List, [], ◌∷◌, All, map, length, Option, Some, None, slice_get, slice_set, slice_index_or, refl, sym, ap, ◌∙◌, subst, cond, arith, option_map}
use Rattle.std.proofs.Math.Seq.{map-set_same}
use Rattle.std.proofs.lemmas.Bool.{eqb-true, eq-eqb}
use Rattle.rio_packets.specs.Fields.{prio_of}
use Rattle.std.proofs.lemmas.List.{length-set, get_or-set_other}
use Rattle.std.proofs.lemmas.Option.{slice_get_within, get_or_from_slice_get, slice_get-get_or}
use Rattle.link_port.specs.Ports.{PortState}
use Rattle.link_machine.specs.States.{Wires, LinkState, link}
use Rattle.maint_registers.specs.Devices.{Registers, is_switch}
use Rattle.fabric_script.specs.declared.ports.PortRef.{PortRef}
use Rattle.fabric_model.specs.Network.{Item, Network, IsEndpoint, same_port, peer_in}
use Rattle.link_watch.specs.declared.note.Note.{Note}
use Rattle.link_watch.specs.declared.note.Note.TheVariants as Notes
use Rattle.fabric_model.specs.Steps.{after_hold}
use Rattle.fabric_model.specs.Laws.Proper.{AreProper}
use Rattle.fabric_model.proofs.Peers.{apart_back}
use Rattle.trace_lines.specs.Notes.{port_at_side, line_of, lines_of}
use Rattle.fabric_trace.proofs.Parts.Folding.{got_net, fired_net}
use Rattle.fabric_trace.specs.Known.{Seen, peer_of, link_at, port_seen, wire_state}
use Rattle.fabric_trace.specs.Fold.{seen_line, seen}
use Rattle.fabric_trace.specs.Views.{lists_in}
use Rattle.fabric_trace.proofs.Parts.Making.{AreOthers}
use Rattle.fabric_trace.proofs.Links.Serving.{Untouched}
use Rattle.fabric_ports.specs.Places.{AreFirsts, IsEndpointAt, port_count, place_of}
use Rattle.fabric_ports.specs.Showing.{ends_of, wires_of, ShowsCable, AreRegisters, ShowsFabric}
use Rattle.fabric_ports.specs.Idling.{KnowsIdle, Wakes}
use Rattle.fabric_ports.specs.declared.fabric.Cable.{Cable}
use Rattle.fabric_ports.specs.declared.fabric.Fabric.{Fabric}
use Rattle.fabric_ports.specs.declared.idle.Idle.{Idle}
use Rattle.fabric_ports.proofs.FaceLaws.{nodes_differ, port}
use Rattle.fabric_ports.proofs.IdleLaws.{idle_stays, move_stays, face_stays, cable_for, link_stays}
use Rattle.fabric_ports.proofs.ShowLaws.{get_set, lead_same, ArePorts, two_set}

-- ---- ends of two links

-- two links have no end in common
pub record AreApart (c d : Cable) : Type 0 where
  pub aa : same_port c.a d.a ≡ false
  pub ab : same_port c.a d.b ≡ false
  pub ba : same_port c.b d.a ≡ false
  pub bb : same_port c.b d.b ≡ false

apart_round : (c d : Cable) → AreApart c d → AreApart d c
apart_round c d apart = record {
  aa = apart_back c.a d.a apart.aa;
  ab = apart_back c.b d.a apart.ba;
  ba = apart_back c.a d.b apart.ab;
  bb = apart_back c.b d.b apart.bb;
}

unlinked_parts : (x y : Bool) (a b : PortRef) (rest : Option PortRef)
    → cond x (Some b) (cond y (Some a) rest) ≡ None → (x ≡ false) × (y ≡ false) × (rest ≡ None)
unlinked_parts true y a b rest none = absurd cc
unlinked_parts false true a b rest none = absurd cc
unlinked_parts false false a b rest none = (refl, refl, none)

-- a port with no link is no end of one
unlinked : (cables : List Cable) (k : ℕ) (d : Cable) (p : PortRef)
    → peer_in (map ends_of cables) p ≡ None → slice_get cables k ≡ Some d
    → (same_port d.a p ≡ false) × (same_port d.b p ≡ false)
unlinked [] k d p none is = absurd cc
unlinked (c ∷ cables) zero d p none is =
    let parts = unlinked_parts (same_port c.a p) (same_port c.b p) c.a c.b
    (peer_in (map ends_of cables) p) none in
    let same : c ≡ d = cc in
    subst (λ (x : Cable). (same_port x.a p ≡ false) × (same_port x.b p ≡ false)) same
    (parts.0, parts.1)
unlinked (c ∷ cables) (suc k) d p none is =
    let parts = unlinked_parts (same_port c.a p) (same_port c.b p) c.a c.b
    (peer_in (map ends_of cables) p) none in
    unlinked cables k d p parts.2 is

first_apart : (c : Cable) (cables : List Cable) (k : ℕ) (d : Cable)
    → AreProper (map ends_of (c ∷ cables)) → slice_get cables k ≡ Some d → AreApart d c
first_apart c cables k d proper is =
    let of_a = unlinked cables k d c.a proper.1 is in
    let of_b = unlinked cables k d c.b proper.2 is in
    record { aa = of_a.0; ab = of_b.0; ba = of_a.1; bb = of_b.1 }

pub cables_apart : (cables : List Cable) (j k : ℕ) (c d : Cable) → AreProper (map ends_of cables)
    → slice_get cables j ≡ Some c → slice_get cables k ≡ Some d → j ≢ k → AreApart c d
cables_apart [] j k c d proper is_c is_d apart = absurd cc
cables_apart (x ∷ cables) zero zero c d proper is_c is_d apart = absurd (apart refl)
cables_apart (x ∷ cables) zero (suc k) c d proper is_c is_d apart =
    let same : x ≡ c = cc in
    subst (λ y. AreApart y d) same (apart_round d x (first_apart x cables k d proper is_d))
cables_apart (x ∷ cables) (suc j) zero c d proper is_c is_d apart =
    let same : x ≡ d = cc in
    subst (AreApart c) same (first_apart x cables j c proper is_c)
cables_apart (x ∷ cables) (suc j) (suc k) c d proper is_c is_d apart =
    cables_apart cables j k c d proper.3 is_c is_d (λ same. apart (ap suc same))

-- the ends of a link are two ports
pub own_apart : (cables : List Cable) (k : ℕ) (d : Cable) → AreProper (map ends_of cables)
    → slice_get cables k ≡ Some d → same_port d.a d.b ≡ false
own_apart [] k d proper is = absurd cc
own_apart (c ∷ cables) zero d proper is =
    let same : c ≡ d = cc in
    subst (λ (x : Cable). same_port x.a x.b ≡ false) same proper.0
own_apart (c ∷ cables) (suc k) d proper is = own_apart cables k d proper.3 is

-- ---- one link has changed

abbrev pub with_wires : Cable → Wires → Cable
with_wires cable wires = record { a = cable.a; b = cable.b; link = wires }

-- the link at this place was woken, and the switches at its ends
abbrev pub WokeLink : Fabric → ℕ → Cable → Idle → Type 0
WokeLink fabric k cable idle =
    Wakes (λ n. n ≡ k) (λ n. (n ≡ cable.a.node) ⊎ (n ≡ cable.b.node)) fabric.idle idle

-- The link at this place, and the two ports at its ends, became these. All else is as it was.
pub record IsChanged (old new : Fabric) (k : ℕ) (cable : Cable) (wires : Wires) (x y : PortState) :
    Type 0 where
  pub devices : new.devices.items ≡ old.devices.items
  pub firsts : new.firsts.items ≡ old.firsts.items
  pub ports : new.ports.items ≡ slice_set
      (slice_set old.ports.items (place_of old.firsts.items cable.a) x)
      (place_of old.firsts.items cable.b) y
  pub cables : new.cables.items ≡ slice_set old.cables.items k (with_wires cable wires)
  pub cable_at : new.cable_at.items ≡ old.cable_at.items
  pub idle : WokeLink old k cable new.idle

wires_stay : {s t : Seen} {a b : PortRef} (c d : Cable) → d.a ≡ a → d.b ≡ b → AreApart c d
    → AreOthers s t a b → wires_of t c.a c.b ≡ wires_of s c.a c.b
wires_stay {s} {t} {a} {b} c d is_a is_b apart others =
    let aa = subst (λ x. same_port c.a x ≡ false) is_a apart.aa in
    let ab = subst (λ x. same_port c.a x ≡ false) is_b apart.ab in
    let ba = subst (λ x. same_port c.b x ≡ false) is_a apart.ba in
    let bb = subst (λ x. same_port c.b x ≡ false) is_b apart.bb in
    let first = (others.untouched c.a aa ab).wire in
    let second = (others.untouched c.b ba bb).wire in
    λ i. record { a = wire_state (first i); b = wire_state (second i) }

other_shown : (devices : List Registers) (s t : Seen) (c d : Cable) → AreApart c d
    → AreOthers s t d.a d.b → ShowsCable devices s c → ShowsCable devices t c
other_shown devices s t c d apart others shown = record {
  port_a = shown.port_a;
  port_b = shown.port_b;
  wires = shown.wires ∙ sym (wires_stay c d refl refl apart others);
}

own_shown : (devices : List Registers) (s t : Seen) (d : Cable) (wires : Wires) (x y : PortState)
    → link_at t d.a d.b ≡ link wires x y → ShowsCable devices s d
    → ShowsCable devices t (with_wires d wires)
own_shown devices s t d wires x y is shown = record {
  port_a = shown.port_a;
  port_b = shown.port_b;
  wires = ap (λ (l : LinkState). record { a = l.wire_a; b = l.wire_b }) (sym is);
}

cables_shown : (devices : List Registers) (cables : List Cable) (s t : Seen) (k : ℕ) (d : Cable)
    (wires : Wires) (x y : PortState) → slice_get cables k ≡ Some d
    → AreProper (map ends_of cables) → AreOthers s t d.a d.b → link_at t d.a d.b ≡ link wires x y
    → All (ShowsCable devices s) cables
    → All (ShowsCable devices t) (slice_set cables k (with_wires d wires))
cables_shown devices cables s t k d wires x y at proper others is all j c within =
    let counted = length-set cables k (with_wires d wires) in
    let inside : j < length cables = omega (arith, within, counted) in
    by_place (j == k) refl inside
  where
    own : j ≡ k → ShowsCable devices t
        (slice_index_or (slice_set cables k (with_wires d wires)) j c)
    own same =
        let stands = get_or_from_slice_get (slice_set cables k (with_wires d wires)) k
        (with_wires d wires) c
        (get_set cables k (with_wires d wires) (slice_get_within cables k d at)) in
        let shown = subst (ShowsCable devices s) (get_or_from_slice_get cables k d d at)
        (all k d (slice_get_within cables k d at)) in
        subst (λ (i : ℕ). ShowsCable devices t
        (slice_index_or (slice_set cables k (with_wires d wires)) i c)) (sym same)
        (subst (ShowsCable devices t) (sym stands) (own_shown devices s t d wires x y is shown))

    other : j ≢ k → j < length cables
        → ShowsCable devices t (slice_index_or (slice_set cables k (with_wires d wires)) j c)
    other apart inside =
        subst (ShowsCable devices t)
        (sym (get_or-set_other cables k j (with_wires d wires) c apart))
        (other_shown devices s t (slice_index_or cables j c) d
        (cables_apart cables j k (slice_index_or cables j c) d proper
        (slice_get-get_or cables j c inside) at apart) others (all j c inside))

    by_place : (same : Bool) → (j == k) ≡ same → j < length cables
        → ShowsCable devices t (slice_index_or (slice_set cables k (with_wires d wires)) j c)
    by_place true is inside = own (eqb-true j k is)
    by_place false is inside = other (λ same. absurd (cc (eq-eqb j k same, is))) inside

-- ---- what no line changes

held_registers : (net : Network) (q : PortRef) (p : Option PortRef) (r : ℕ)
    → (after_hold net q p r).registers ≡ net.registers
held_registers net q None r = refl
held_registers net q (Some p) r = refl

note_registers : (s : Seen) (a b : PortRef) (note : Note)
    → (seen_line s (line_of a b note)).network.registers ≡ s.network.registers
note_registers s a b (Notes.Sent side chars) = refl
note_registers s a b (Notes.Got side chars) =
    ap (λ (net : Network). net.registers)
    (got_net s (peer_of s (port_at_side a b side)) (port_at_side a b side) chars)
note_registers s a b (Notes.Hold side packet) =
    held_registers s.network (port_at_side a b side)
    (peer_in s.network.links (port_at_side a b side)) (prio_of packet)
note_registers s a b (Notes.Free side packet) = refl
note_registers s a b (Notes.Fire side) =
    ap (λ (net : Network). net.registers)
    (fired_net s (peer_of s (port_at_side a b side)) (port_at_side a b side))

-- whatever is noted of a link
pub notes_registers : (s : Seen) (a b : PortRef) (notes : List Note)
    → (seen s (lines_of a b notes)).network.registers ≡ s.network.registers
notes_registers s a b [] = refl
notes_registers s a b (note ∷ notes) = notes_registers (seen_line s (line_of a b note)) a b notes
    ∙ note_registers s a b note

-- ---- the whole fabric

pub port_stays : {s t : Seen} (c : PortRef) → Untouched s t c → port_seen t c ≡ port_seen s c
port_stays {s} {t} c un =
    λ i. record {
      place = (un.half i).place;
      output = (un.half i).output;
      input = (un.half i).input;
      queued = lists_in
          (λ r. filter (λ (item : Item). prio_of item.now == r) (un.lists.lent i) ++
          un.lists.waiting i r);
      received = record { lists = lists_in (un.lists.received i); buffers = un.lists.buffers i };
      tells = un.lists.tells i;
    }

-- what is known to have nothing to do, but the link and the switches at its ends
idle_changed : (old new : Fabric) (s t : Seen) (k : ℕ) (d : Cable) → ShowsFabric old s
    → slice_get old.cables.items k ≡ Some d → AreProper (map ends_of old.cables.items)
    → AreOthers s t d.a d.b → t.network.registers ≡ s.network.registers
    → WokeLink old k d new.idle
    → KnowsIdle new.idle t
idle_changed old new s t k d shows at proper others registers woke =
    idle_stays old.idle new.idle s t shows.idle woke others.links
    (ap (λ (l : List Registers). length l) registers) stays
    (λ n marked none. move_stays (ap (λ (l : List Registers). slice_get l n) registers)
    (λ j. face_stays s t (port n j) (port_stays (port n j) (others.untouched (port n j)
    (nodes_differ d.a (port n j) (λ same. none (inl same)))
    (nodes_differ d.b (port n j) (λ same. none (inr same)))))))
  where
    stays : (j : ℕ) (link : PortRef × PortRef) → slice_get s.network.links j ≡ Some link → j ≢ k
        → link_at t link.0 link.1 ≡ link_at s link.0 link.1
    stays j link there other =
        let own = cable_for old s j link shows there in
        let c = own.cable in
        let apart = cables_apart old.cables.items j k c d proper own.at at other in
        let first = others.untouched c.a apart.aa apart.ab in
        let second = others.untouched c.b apart.ba apart.bb in
        subst (λ (l : PortRef × PortRef). link_at t l.0 l.1 ≡ link_at s l.0 l.1) own.ends
        (link_stays s t c.a c.b (port_stays c.a first) (port_stays c.b second) first.wire
        second.wire)

pub changed_shows : (old new : Fabric) (s t : Seen) (k : ℕ) (d : Cable) (wires : Wires)
    (x y : PortState) → ShowsFabric old s → slice_get old.cables.items k ≡ Some d
    → IsChanged old new k d wires x y → AreProper s.network.links → AreOthers s t d.a d.b
    → t.network.registers ≡ s.network.registers
    → link_at t d.a d.b ≡ link wires x y → ShowsFabric new t
changed_shows old new s t k d wires x y shows at changed proper others registers is =
    let devices = old.devices.items in
    let firsts = old.firsts.items in
    let inside = slice_get_within old.cables.items k d at in
    let own = subst (ShowsCable devices s) (get_or_from_slice_get old.cables.items k d d at)
    (shows.cables k d inside) in
    let links = subst AreProper (sym shows.links) proper in
    let apart = apart_back d.a d.b (own_apart old.cables.items k d links at) in
    let px = place_of firsts d.a in
    let py = place_of firsts d.b in
    let ports = two_set devices firsts old.ports.items s t d.a d.b x y shows.firsts shows.count
    shows.ports own.port_a own.port_b apart (ap (λ (l : LinkState). l.a) is)
    (ap (λ (l : LinkState). l.b) is)
    (λ c first second. port_stays c (others.untouched c first second)) in
    let two = slice_set (slice_set old.ports.items px x) py y in
    let counted : length two ≡ length old.ports.items =
    length-set (slice_set old.ports.items px x) py y ∙ length-set old.ports.items px x in
    let cables = cables_shown devices old.cables.items s t k d wires x y at links others is
    shows.cables in
    let same_ends : map ends_of (slice_set old.cables.items k (with_wires d wires)) ≡ map ends_of
    old.cables.items =
    map-set_same ends_of old.cables.items k (with_wires d wires) d
    (ap ends_of (sym (get_or_from_slice_get old.cables.items k d d at))) in
    record {
      firsts = subst (λ (l : List ℕ). AreFirsts 0 new.devices.items l) (sym changed.firsts)
          (subst (λ (l : List Registers). AreFirsts 0 l firsts) (sym changed.devices) shows.firsts);
      count = ap (λ (l : List PortState). length l) changed.ports ∙ counted ∙ shows.count
          ∙ ap port_count (sym changed.devices);
      ports = subst (λ (l : List PortState). ArePorts new.devices.items new.firsts.items l t)
          (sym changed.ports)
          (subst (λ (l : List ℕ). ArePorts new.devices.items l two t) (sym changed.firsts)
          (subst (λ (l : List Registers). ArePorts l firsts two t) (sym changed.devices) ports));
      cables = subst (λ (l : List Cable). All (ShowsCable new.devices.items t) l)
          (sym changed.cables)
          (subst (λ (l : List Registers). All (ShowsCable l t)
          (slice_set old.cables.items k (with_wires d wires))) (sym changed.devices) cables);
      links = ap (map ends_of) changed.cables ∙ same_ends ∙ shows.links ∙ sym others.links;
      lead = lead_same s.network.links t.network.links firsts new.firsts.items
          old.cable_at.items new.cable_at.items others.links changed.firsts changed.cable_at
          shows.lead;
      registers = subst (AreRegisters t.network) (sym changed.devices)
          (registers ∙ shows.registers);
      idle = idle_changed old new s t k d shows at links others registers changed.idle;
      endpoints = λ n is.
          let before : IsEndpoint s.network n =
          subst (λ (l : List Registers). option_map is_switch (slice_get l n) ≡ Some false)
          registers is in
          subst (λ (l : List Registers). IsEndpointAt l n) (sym changed.devices)
          (shows.endpoints n before);
    }
