-- What a fabric shows after a call that changed ports and registers of one node.
use Rattle.std.proofs.Common.{◌≡◌, ◌≢◌, ℕ, zero, suc, true, false, List, [], ◌∷◌, length, map, Some, slice_get, slice_set, get_or, option_map, refl, sym, ap, ◌∙◌, subst, length-set}
use Rattle.std.proofs.lemmas.Bool.{false_from_ne_true}
use Rattle.std.proofs.lemmas.List.Elements.{All-weaker}
use Rattle.std.proofs.lemmas.Option.{get_or_from_slice_get, slice_get_within, slice_get-get_or}
use Rattle.std.specs.Vec.{with_item, with_items}
use Rattle.link_port.specs.Ports.{PortState}
use Rattle.maint_registers.specs.Devices.{Registers, IsSameDevice, is_switch}
use Rattle.fabric_script.specs.declared.ports.PortRef.{PortRef}
use Rattle.fabric_model.specs.Network.{IsEndpoint, same_port, port_of}
use Rattle.fabric_model.proofs.Peers.{port_is}
use Rattle.fabric_trace.specs.Known.{Wire, Seen, port_seen, wire_state}
use Rattle.fabric_trace.specs.Served.{IsMove}
use Rattle.trace_lines.specs.Lines.{NoStep, Lacked}
use Rattle.fabric_ports.specs.declared.fabric.Fabric.{Fabric}
use Rattle.fabric_ports.specs.declared.idle.Idle.{Idle}
use Rattle.fabric_ports.specs.Idling.{KnowsIdle, Wakes, HasNumber}
use Rattle.fabric_ports.specs.Places.{AreFirsts, IsPortOf, IsEndpointAt, place_of}
use Rattle.fabric_ports.specs.Showing.{ends_of, ShowsCable, ShowsFabric}
use Rattle.fabric_ports.proofs.DeviceLaws.{AreSameDevices, one_written, kinds_stay, firsts_stay, count_stays, has_port_still, had_port, endpoint_stays}
use Rattle.fabric_ports.proofs.FaceLaws.{nodes_differ, port}
use Rattle.fabric_ports.proofs.IdleLaws.{move_stays, face_stays, idle_ports}
use Rattle.fabric_ports.proofs.ShowLaws.{lead_same, get_other, ArePorts, one_set}

-- ---- registers

pub set_same : {X : Type 0} (xs : List X) (n : ℕ) (x : X) → slice_get xs n ≡ Some x
    → slice_set xs n x ≡ xs
set_same [] n x is = refl
set_same (y ∷ xs) zero x is = let same : y ≡ x = cc in ap (λ z. z ∷ xs) (sym same)
set_same (y ∷ xs) (suc n) x is = ap (λ zs. y ∷ zs) (set_same xs n x is)

-- the device that was read at its place
pub device_read : (devices : List Registers) {n place : ℕ} {known device : Registers}
    → slice_get devices n ≡ Some known → place ≡ n → device ≡ get_or devices place device
    → slice_get devices n ≡ Some device
device_read devices {n = n} {known = known} {device = device} stands same value =
    slice_get-get_or devices n device (slice_get_within devices n known stands)
    ∙ ap Some (ap (λ k. get_or devices k device) (sym same) ∙ sym value)

-- ---- the fabric afterwards

-- what stays of a fabric whose ports change, and whose devices were written to
pub record IsServed (old new : Fabric) : Type 0 where
  pub devices : AreSameDevices old.devices.items new.devices.items
  pub firsts : new.firsts.items ≡ old.firsts.items
  pub count : length new.ports.items ≡ length old.ports.items
  pub cables : new.cables.items ≡ old.cables.items
  pub cable_at : new.cable_at.items ≡ old.cable_at.items

-- the wires stay as they were
pub served_shows : (old new : Fabric) (s t : Seen) → ShowsFabric old s → IsServed old new
    → ArePorts old.devices.items old.firsts.items new.ports.items t
    → t.wires ≡ s.wires → t.network.links ≡ s.network.links
    → t.network.registers ≡ new.devices.items → KnowsIdle new.idle t → ShowsFabric new t
served_shows old new s t shows served ports wires links registers idle =
    let before = old.devices.items in
    let after = new.devices.items in
    let cables = All-weaker (ShowsCable before s) (ShowsCable after t)
    (λ cable is. record {
      port_a = has_port_still before after cable.a.node cable.a.port served.devices is.port_a;
      port_b = has_port_still before after cable.b.node cable.b.port served.devices is.port_b;
      wires = is.wires
          ∙ ap (λ (w : PortRef → Wire).
          record { a = wire_state (w cable.a); b = wire_state (w cable.b) }) (sym wires);
    }) old.cables.items shows.cables in
    record {
      firsts = subst (λ (l : List ℕ). AreFirsts 0 after l) (sym served.firsts)
          (firsts_stay 0 before after old.firsts.items served.devices shows.firsts);
      count = served.count ∙ shows.count ∙ sym (count_stays before after served.devices);
      ports = λ p has.
          ap (λ (l : List ℕ). slice_get new.ports.items (place_of l p)) served.firsts
          ∙ ports p (had_port before after p.node p.port served.devices has);
      cables = rw served.cables cables;
      links = ap (map ends_of) served.cables ∙ shows.links ∙ sym links;
      lead = lead_same s.network.links t.network.links old.firsts.items new.firsts.items
          old.cable_at.items new.cable_at.items links served.firsts served.cable_at shows.lead;
      registers = registers;
      idle = idle;
      endpoints = λ n is.
          let kind : IsEndpoint s.network n =
          ap (λ (l : List Registers). option_map is_switch (slice_get l n)) shows.registers
          ∙ sym (kinds_stay before after n served.devices)
          ∙ ap (λ (l : List Registers). option_map is_switch (slice_get l n)) (sym registers)
          ∙ is in
          endpoint_stays before after n served.devices (shows.endpoints n kind);
    }

-- ---- one port

-- One port and the registers of one device have changed, and nothing else of the fabric.
pub record HasBoth (old new : Fabric) (n : ℕ) (next : Registers) (p : PortRef) (y : PortState)
    : Type 0 where
  pub devices : new.devices.items ≡ slice_set old.devices.items n next
  pub firsts : new.firsts.items ≡ old.firsts.items
  pub ports : new.ports.items ≡ slice_set old.ports.items (place_of old.firsts.items p) y
  pub cables : new.cables.items ≡ old.cables.items
  pub cable_at : new.cable_at.items ≡ old.cable_at.items
  pub idle : Wakes (HasNumber old.cable_at.items (λ i. i ≡ place_of old.firsts.items p)) (λ k. ⊥)
      old.idle new.idle

pub endpoint_port : (devices : List Registers) (n : ℕ) → IsEndpointAt devices n
    → IsPortOf devices (port_of n)
endpoint_port devices n at = rw at.stands at.has_port

-- what is known to have nothing to do, but the link of the port
one_idle : (old new : Fabric) (s t : Seen) (n : ℕ) (next : Registers) → ShowsFabric old s
    → IsEndpointAt old.devices.items n
    → Wakes (HasNumber old.cable_at.items (λ i. i ≡ place_of old.firsts.items (port_of n)))
    (λ k. ⊥) old.idle new.idle
    → ((q : PortRef) → same_port q (port_of n) ≡ false → port_seen t q ≡ port_seen s q)
    → t.wires ≡ s.wires → t.network.links ≡ s.network.links
    → t.network.registers ≡ slice_set s.network.registers n next → KnowsIdle new.idle t
one_idle old new s t n next shows at woke others wires links registers =
    idle_ports old new.idle s t (λ i. i ≡ place_of old.firsts.items (port_of n)) shows woke wires
    links
    (ap (λ (l : List Registers). length l) registers
    ∙ length-set s.network.registers n next)
    (λ q away. others q (false_from_ne_true (same_port q (port_of n)) (λ same. away
    (ap (place_of old.firsts.items) (port_is q (port_of n) same)))))
    (λ m marked rests. move_stays
    (ap (λ (l : List Registers). slice_get l m) registers
    ∙ get_other s.network.registers n m next (other m rests))
    (λ j. face_stays s t (port m j) (others (port m j) (nodes_differ (port_of n) (port m j)
    (other m rests)))) rests)
  where
    other : (m : ℕ) → IsMove s.network m (Lacked NoStep ∷ []) → m ≢ n
    other m rests same =
        let kind : Some true ≡ Some false = sym rests.switch
        ∙ ap (λ k. option_map is_switch (slice_get s.network.registers k)) same
        ∙ ap (λ (l : List Registers). option_map is_switch (slice_get l n)) shows.registers
        ∙ ap (option_map is_switch) at.stands ∙ ap Some at.kind in
        absurd (cc kind)

pub port_shows : (old new : Fabric) (s t : Seen) (n : ℕ) (device next : Registers) (y : PortState)
    → ShowsFabric old s → IsEndpointAt old.devices.items n
    → slice_get old.devices.items n ≡ Some device → IsSameDevice device next
    → HasBoth old new n next (port_of n) y → port_seen t (port_of n) ≡ y
    → ((q : PortRef) → same_port q (port_of n) ≡ false → port_seen t q ≡ port_seen s q)
    → t.wires ≡ s.wires → t.network.links ≡ s.network.links
    → t.network.registers ≡ slice_set s.network.registers n next → ShowsFabric new t
port_shows old new s t n device next y shows at stands same has becomes others wires links
    registers =
    let ports = one_set old.devices.items old.firsts.items old.ports.items s t (port_of n) y
    shows.firsts shows.count shows.ports (endpoint_port old.devices.items n at) becomes others in
    served_shows old new s t shows
    (record {
      devices = rw has.devices (one_written old.devices.items n device next stands same);
      firsts = has.firsts;
      count = ap (λ (l : List PortState). length l) has.ports
          ∙ length-set old.ports.items (place_of old.firsts.items (port_of n)) y;
      cables = has.cables;
      cable_at = has.cable_at;
    })
    (rw has.ports ports) wires links
    (registers ∙ ap (λ (l : List Registers). slice_set l n next) shows.registers ∙ sym has.devices)
    (one_idle old new s t n next shows at has.idle others wires links registers)

-- the port that was read at the place of an endpoint is the one that is known
pub port_read : {fabric : Fabric} {s : Seen} {n place : ℕ} {x : PortState} → ShowsFabric fabric s
    → IsEndpointAt fabric.devices.items n
    → place ≡ place_of fabric.firsts.items (port_of n) → x ≡ get_or fabric.ports.items place x
    → port_seen s (port_of n) ≡ x
port_read {fabric = fabric} {s = s} {n = n} {x = x} shows at is value =
    let there = shows.ports (port_of n) (endpoint_port fabric.devices.items n at) in
    sym (get_or_from_slice_get fabric.ports.items (place_of fabric.firsts.items (port_of n))
    (port_seen s (port_of n)) x there)
    ∙ ap (λ i. get_or fabric.ports.items i x) (sym is) ∙ sym value

-- the fabric with this port at a place, and this device at another
abbrev pub with_both : Fabric → ℕ → Registers → ℕ → PortState → Idle → Fabric
with_both fabric n device place port idle = record {
  devices = with_item fabric.devices n device;
  firsts = fabric.firsts;
  ports = with_item fabric.ports place port;
  cables = fabric.cables;
  cable_at = fabric.cable_at;
  idle = idle;
}

-- the numbers of links were read, and those of one place were woken
abbrev pub WokeOne : Fabric → List ℕ → ℕ → Idle → Type 0
WokeOne fabric numbers place idle =
    (numbers ≡ fabric.cable_at.items)
    × Wakes (HasNumber numbers (λ i. i ≡ place)) (λ k. ⊥) fabric.idle idle

woke_one : (fabric : Fabric) (p : PortRef) {numbers : List ℕ} {place : ℕ} {idle : Idle}
    → place ≡ place_of fabric.firsts.items p → WokeOne fabric numbers place idle
    → Wakes (HasNumber fabric.cable_at.items (λ i. i ≡ place_of fabric.firsts.items p)) (λ k. ⊥)
    fabric.idle idle
woke_one fabric p {place = place} {idle = idle} is woke =
    subst (λ n. Wakes (HasNumber fabric.cable_at.items (λ i. i ≡ n)) (λ k. ⊥) fabric.idle idle) is
    (subst (λ l. Wakes (HasNumber l (λ i. i ≡ place)) (λ k. ⊥) fabric.idle idle) woke.0 woke.1)

pub has_both : (fabric : Fabric) (p : PortRef) {node n place : ℕ} (next : Registers) (y : PortState)
    {numbers : List ℕ} {idle : Idle} → place ≡ place_of fabric.firsts.items p → node ≡ n
    → WokeOne fabric numbers place idle
    → HasBoth fabric (with_both fabric node next place y idle) n next p y
has_both fabric p next y is same woke = record {
  devices = ap (λ k. slice_set fabric.devices.items k next) same;
  firsts = refl;
  ports = ap (λ i. slice_set fabric.ports.items i y) is;
  cables = refl;
  cable_at = refl;
  idle = woke_one fabric p is woke;
}

-- the fabric with this port at a place
abbrev pub with_port : Fabric → ℕ → PortState → Idle → Fabric
with_port fabric place port idle = record {
  devices = fabric.devices;
  firsts = fabric.firsts;
  ports = with_item fabric.ports place port;
  cables = fabric.cables;
  cable_at = fabric.cable_at;
  idle = idle;
}

pub has_port : (fabric : Fabric) (p : PortRef) (n : ℕ) {place : ℕ} {device : Registers}
    (y : PortState) {numbers : List ℕ} {idle : Idle}
    → place ≡ place_of fabric.firsts.items p → slice_get fabric.devices.items n ≡ Some device
    → WokeOne fabric numbers place idle
    → HasBoth fabric (with_port fabric place y idle) n device p y
has_port fabric p n {device = device} y is stands woke = record {
  devices = sym (set_same fabric.devices.items n device stands);
  firsts = refl;
  ports = ap (λ i. slice_set fabric.ports.items i y) is;
  cables = refl;
  cable_at = refl;
  idle = woke_one fabric p is woke;
}

-- the fabric with these ports, and this device at a place
abbrev pub with_ports : Fabric → ℕ → Registers → List PortState → Idle → Fabric
with_ports fabric n device ports idle = record {
  devices = with_item fabric.devices n device;
  firsts = fabric.firsts;
  ports = with_items fabric.ports ports;
  cables = fabric.cables;
  cable_at = fabric.cable_at;
  idle = idle;
}
