-- What is known to have nothing to do stays so, where nothing that matters to it has changed.
use Rattle.std.proofs.Common.{◌≡◌, ◌⊎◌, ℕ, zero, suc, ◌<◌, Bool, true, false, List, [], ◌∷◌, length, map, replicate, Option, Some, None, option_map, slice_get, slice_set, slice_index_or, inl, inr, refl, sym, ap, ◌∙◌, subst, arith}
use Rattle.std.proofs.lemmas.List.{length-set, length-map, get_or_default}
use Rattle.std.proofs.lemmas.Option.{same_Some, slice_get-map}
use Rattle.std.specs.Vec.{with_item}
use Rattle.link_law.specs.Resting.{has_no_work}
use Rattle.maint_registers.specs.Devices.{Registers, is_switch}
use Rattle.switch_core.specs.SwitchSteps.{step_of}
use Rattle.fabric_script.specs.declared.ports.PortRef.{PortRef}
use Rattle.fabric_model.specs.Network.{Network}
use Rattle.fabric_trace.specs.Known.{Wire, Seen, link_at, port_seen, wire_state}
use Rattle.fabric_trace.specs.Served.{face_in, faces_from, step_lines, ResponseHasForm, IsMove}
use Rattle.trace_lines.specs.Lines.{NoStep, Lacked}
use Rattle.fabric_ports.specs.Idling.{IsMarkedAt, KnowsIdle, Wakes, HasNumber}
use Rattle.fabric_ports.specs.Places.{place_of}
use Rattle.fabric_ports.specs.Showing.{ends_of, ShowsFabric}
use Rattle.fabric_ports.specs.declared.fabric.Cable.{Cable}
use Rattle.fabric_ports.specs.declared.fabric.Fabric.{Fabric}
use Rattle.fabric_ports.specs.declared.idle.Idle.{Idle}
use Rattle.fabric_ports.proofs.FaceLaws.{face_of_port, port}

-- ---- marks

pub none_marked : (n k : ℕ) → ¬ IsMarkedAt (replicate n false) k
none_marked zero k is = absurd (cc is)
none_marked (suc n) zero is = absurd (cc is)
none_marked (suc n) (suc k) is = none_marked n k is

-- where one mark was written, each that is there was written or was there before
pub mark_written : (marks : List Bool) (k j : ℕ) (b : Bool) → IsMarkedAt (slice_set marks k b) j
    → ((j ≡ k) × (b ≡ true)) ⊎ IsMarkedAt marks j
mark_written [] k j b is = inr is
mark_written (m ∷ marks) zero zero b is = inl (refl, is)
mark_written (m ∷ marks) zero (suc j) b is = inr is
mark_written (m ∷ marks) (suc k) zero b is = inr is
mark_written (m ∷ marks) (suc k) (suc j) b is = elim (mark_written marks k j b is) [
  | inl own ↦ inl (ap suc own.0, own.1)
  | inr before ↦ inr before
]

-- the mark that was read at a place
pub marked_read : (marks : List Bool) (k : ℕ) (read : Bool) → k < length marks
    → read ≡ slice_index_or marks k read → read ≡ true → IsMarkedAt marks k
marked_read marks k read within value is = get_or_default marks k false read within ∙ sym value ∙ is

pub unmarked_read : (marks : List Bool) (k : ℕ) (read : Bool) → k < length marks
    → read ≡ slice_index_or marks k read → read ≡ false → ¬ IsMarkedAt marks k
unmarked_read marks k read within value is marked =
    let other : true ≡ false =
    sym marked ∙ get_or_default marks k false read within ∙ sym value ∙ is in
    absurd (cc other)

-- a link is marked, or one that was not is not
abbrev pub with_link_mark : Idle → ℕ → Bool → Idle
with_link_mark idle k b =
    record { links = with_item idle.links k b; switches = idle.switches }

pub link_marked : (idle : Idle) (k : ℕ) (b : Bool) (s : Seen) → KnowsIdle idle s
    → ((link : PortRef × PortRef) → slice_get s.network.links k ≡ Some link
    → b ≡ has_no_work (link_at s link.0 link.1))
    → KnowsIdle (with_link_mark idle k b) s
link_marked idle k b s knows is = record {
  links = λ j link marked at. elim (mark_written idle.links.items k j b marked) [
    | inl own ↦ sym (is link (ap (slice_get s.network.links) (sym own.0) ∙ at)) ∙ own.1
    | inr before ↦ knows.links j link before at
  ];
  switches = knows.switches;
  as_many_links = length-set idle.links.items k b ∙ knows.as_many_links;
  as_many_devices = knows.as_many_devices;
}

-- a switch is marked
abbrev pub with_switch_mark : Idle → ℕ → Idle
with_switch_mark idle node =
    record { links = idle.links; switches = with_item idle.switches node true }

pub switch_marked : (idle : Idle) (node : ℕ) (s : Seen) → KnowsIdle idle s
    → IsMove s.network node (Lacked NoStep ∷ []) → KnowsIdle (with_switch_mark idle node) s
switch_marked idle node s knows rests = record {
  links = knows.links;
  switches = λ n marked. elim (mark_written idle.switches.items node n true marked) [
    | inl own ↦ subst (λ m. IsMove s.network m (Lacked NoStep ∷ [])) (sym own.0) rests
    | inr before ↦ knows.switches n before
  ];
  as_many_links = knows.as_many_links;
  as_many_devices = length-set idle.switches.items node true ∙ knows.as_many_devices;
}

-- ---- what is known later

pub nothing_woken : (idle : Idle) → Wakes (λ k. ⊥) (λ n. ⊥) idle idle
nothing_woken idle = record {
  links = λ k marked. (marked, λ none. none);
  switches = λ n marked. (marked, λ none. none);
  as_many_links = refl;
  as_many_devices = refl;
}

pub idle_stays : {Links Switches : ℕ → Type 0} (old new : Idle) (s t : Seen) → KnowsIdle old s
    → Wakes Links Switches old new → t.network.links ≡ s.network.links
    → length t.network.registers ≡ length s.network.registers
    → ((k : ℕ) (link : PortRef × PortRef) → slice_get s.network.links k ≡ Some link → ¬ Links k
    → link_at t link.0 link.1 ≡ link_at s link.0 link.1)
    → ((n : ℕ) → IsMarkedAt old.switches.items n → ¬ Switches n
    → IsMove s.network n (Lacked NoStep ∷ []) → IsMove t.network n (Lacked NoStep ∷ []))
    → KnowsIdle new t
idle_stays old new s t knows woke links many same moves = record {
  links = λ k link marked at.
      let before = woke.links k marked in
      let there = ap (λ (l : List (PortRef × PortRef)). slice_get l k) (sym links) ∙ at in
      ap has_no_work (same k link there before.1) ∙ knows.links k link before.0 there;
  switches = λ n marked.
      let before = woke.switches n marked in
      moves n before.0 before.1 (knows.switches n before.0);
  as_many_links = woke.as_many_links ∙ knows.as_many_links
      ∙ ap (λ (l : List (PortRef × PortRef)). length l) (sym links);
  as_many_devices = woke.as_many_devices ∙ knows.as_many_devices ∙ sym many;
}

-- ---- switches

faces_stay : (net next : Network) (node from n : ℕ)
    → ((j : ℕ) → face_in next (port node j) ≡ face_in net (port node j))
    → faces_from next node from n ≡ faces_from net node from n
faces_stay net next node from zero same = refl
faces_stay net next node from (suc n) same =
    let rest = faces_stay net next node (suc from) n same in
    λ i. same from i ∷ rest i

-- a switch of which no packet can go, and whose registers and lists are as they were
pub move_stays : {net next : Network} {node : ℕ}
    → slice_get next.registers node ≡ slice_get net.registers node
    → ((j : ℕ) → face_in next (port node j) ≡ face_in net (port node j))
    → IsMove net node (Lacked NoStep ∷ []) → IsMove next node (Lacked NoStep ∷ [])
move_stays {net = net} {next = next} {node = node} registers same move =
    let faces = faces_stay net next node 0 move.device.ports same in
    record {
      switch = ap (option_map is_switch) registers ∙ move.switch;
      device = move.device;
      stands = registers ∙ move.stands;
      form = subst (λ l. ResponseHasForm (step_of move.device l)) (sym faces) move.form;
      lines = move.lines ∙ ap (λ l. step_lines node (step_of move.device l)) (sym faces);
    }

-- the lists of a port that stays
pub face_stays : (s t : Seen) (q : PortRef) → port_seen t q ≡ port_seen s q
    → face_in t.network q ≡ face_in s.network q
face_stays s t q same = ap face_of_port same

-- ---- links

-- the cable of a link
pub record IsCableOf (fabric : Fabric) (k : ℕ) (link : PortRef × PortRef) : Type 0 where
  pub cable : Cable
  pub at : slice_get fabric.cables.items k ≡ Some cable
  pub ends : ends_of cable ≡ link

pub cable_for : (fabric : Fabric) (s : Seen) (k : ℕ) (link : PortRef × PortRef)
    → ShowsFabric fabric s → slice_get s.network.links k ≡ Some link → IsCableOf fabric k link
cable_for fabric s k link shows at =
    by_cable (slice_get fabric.cables.items k) refl
    (sym (slice_get-map ends_of fabric.cables.items k)
    ∙ ap (λ (l : List (PortRef × PortRef)). slice_get l k) shows.links ∙ at)
  where
    by_cable : (o : Option Cable) → slice_get fabric.cables.items k ≡ o
        → option_map ends_of (slice_get fabric.cables.items k) ≡ Some link
        → IsCableOf fabric k link
    by_cable None is ends = absurd (cc (sym (ap (option_map ends_of) is) ∙ ends))
    by_cable (Some cable) is ends = record {
      cable = cable;
      at = is;
      ends = same_Some (ends_of cable) link (sym (ap (option_map ends_of) is) ∙ ends);
    }

-- there is a mark for each link of the fabric, and for each device
pub marks_of_links : {fabric : Fabric} {s : Seen} → ShowsFabric fabric s
    → length fabric.idle.links.items ≡ length fabric.cables.items
marks_of_links {fabric = fabric} shows = shows.idle.as_many_links
    ∙ ap (λ (l : List (PortRef × PortRef)). length l) (sym shows.links)
    ∙ length-map fabric.cables.items ends_of

pub marks_of_devices : {fabric : Fabric} {s : Seen} → ShowsFabric fabric s
    → length fabric.idle.switches.items ≡ length fabric.devices.items
marks_of_devices shows = shows.idle.as_many_devices
    ∙ ap (λ (l : List Registers). length l) shows.registers

-- the fabric with these marks
abbrev pub with_idle : Fabric → Idle → Fabric
with_idle fabric idle = record {
  devices = fabric.devices;
  firsts = fabric.firsts;
  ports = fabric.ports;
  cables = fabric.cables;
  cable_at = fabric.cable_at;
  idle = idle;
}

idle_shows : {fabric : Fabric} {s : Seen} (idle : Idle) → ShowsFabric fabric s → KnowsIdle idle s
    → ShowsFabric (with_idle fabric idle) s
idle_shows idle shows knows = record {
  firsts = shows.firsts;
  count = shows.count;
  ports = shows.ports;
  cables = shows.cables;
  links = shows.links;
  lead = shows.lead;
  registers = shows.registers;
  idle = knows;
  endpoints = shows.endpoints;
}

-- whether the link at a place has nothing to do is known, and marked
pub link_shows : (fabric : Fabric) (k : ℕ) (b : Bool) (s : Seen) → ShowsFabric fabric s
    → ((s : Seen) (p q : PortRef) → ShowsFabric fabric s
    → slice_get (map ends_of fabric.cables.items) k ≡ Some (p, q)
    → b ≡ has_no_work (link_at s p q))
    → ShowsFabric (with_idle fabric (with_link_mark fabric.idle k b)) s
link_shows fabric k b s shows is =
    idle_shows (with_link_mark fabric.idle k b) shows
    (link_marked fabric.idle k b s shows.idle (λ link at. is s link.0 link.1 shows
    (ap (λ (l : List (PortRef × PortRef)). slice_get l k) shows.links ∙ at)))

-- the link that is marked at a place has nothing to do
pub marked_still : (fabric : Fabric) (k : ℕ) (read : Bool) → k < length fabric.cables.items
    → read ≡ slice_index_or fabric.idle.links.items k read → read ≡ true
    → (s : Seen) (p q : PortRef) → ShowsFabric fabric s
    → slice_get (map ends_of fabric.cables.items) k ≡ Some (p, q)
    → true ≡ has_no_work (link_at s p q)
marked_still fabric k read within value is s p q shows at =
    let many = marks_of_links shows in
    sym (shows.idle.links k (p, q)
    (marked_read fabric.idle.links.items k read (omega (arith, within, many)) value is)
    (ap (λ (l : List (PortRef × PortRef)). slice_get l k) (sym shows.links) ∙ at))

-- a link whose ports and wires are as they were
pub link_stays : (s t : Seen) (a b : PortRef) → port_seen t a ≡ port_seen s a
    → port_seen t b ≡ port_seen s b → t.wires a ≡ s.wires a → t.wires b ≡ s.wires b
    → link_at t a b ≡ link_at s a b
link_stays s t a b first second wire_a wire_b = λ i. record {
  a = first i;
  b = second i;
  wire_a = wire_state (wire_a i);
  wire_b = wire_state (wire_b i);
}

-- ---- ports have changed, and their links were woken

pub idle_ports : (old : Fabric) (new : Idle) (s t : Seen) (Places : ℕ → Type 0)
    → ShowsFabric old s → Wakes (HasNumber old.cable_at.items Places) (λ n. ⊥) old.idle new
    → t.wires ≡ s.wires → t.network.links ≡ s.network.links
    → length t.network.registers ≡ length s.network.registers
    → ((q : PortRef) → ¬ Places (place_of old.firsts.items q) → port_seen t q ≡ port_seen s q)
    → ((n : ℕ) → IsMarkedAt old.idle.switches.items n → IsMove s.network n (Lacked NoStep ∷ [])
    → IsMove t.network n (Lacked NoStep ∷ []))
    → KnowsIdle new t
idle_ports old new s t Places shows woke wires links many ports moves =
    idle_stays old.idle new s t shows.idle woke links many stays (λ n marked none. moves n marked)
  where
    stays : (k : ℕ) (link : PortRef × PortRef) → slice_get s.network.links k ≡ Some link
        → ¬ HasNumber old.cable_at.items Places k
        → link_at t link.0 link.1 ≡ link_at s link.0 link.1
    stays k link at none =
        let lead = shows.lead k link at in
        link_stays s t link.0 link.1
        (ports link.0 (λ is. none (place_of old.firsts.items link.0, is, lead.0)))
        (ports link.1 (λ is. none (place_of old.firsts.items link.1, is, lead.1)))
        (ap (λ (w : PortRef → Wire). w link.0) wires) (ap (λ (w : PortRef → Wire). w link.1) wires)
