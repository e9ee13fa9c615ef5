-- Packets stand at ports of nodes, in the lists of the four priorities.
use Rattle.std.proofs.Common.{◌≡◌, ℕ, ◌<◌, ◌&&◌, ◌==◌, nat_lt, Bool, true, false, List, [], ◌∷◌, map, Option, Some, None, option_map, option_and_then, slice_get, get_or, if◌then◌else◌, refl, sym, ap, ◌∙◌, subst, arith}
use Rattle.fabric_model.proofs.Prelude.{AllByRecursion, eqb-true, ltb-true, and_parts, prio_of, dest_of, is_request, Passes, Registers, is_switch, port_named, next_port, is_foreign, is_at_end, to_port, next_of, request_of, Next, Nowhere, RegisterUnit, Port, Request, answered_same, PortRef, Item, Lanes, Network, same_port, port_of, with_lane, peer_in, first_packet, next_at, device_after, Hold, Free, Take, Leave, Move, Drop, Answer, Step, Linked, AtNode, ByDevice, Needs, behind_first, after_hold, after, LegalFrom, IsEmptyNetwork, HasPort, IsPortOf, JoinsNodes, IsSpot, StandAtNodes}
use Rattle.std.proofs.lemmas.Option.{slice_get-map}
use Rattle.fabric_model.proofs.Devices.{map-with_device}
use Rattle.fabric_model.proofs.Flows.{switches_stay}
use Rattle.fabric_model.proofs.Joining.{links_stay}
use Rattle.fabric_model.proofs.Lists.{all_weaker}
use Rattle.fabric_model.proofs.Peers.{port_is}
use Rattle.fabric_model.proofs.Tables.{registers_stay}

pub few_prio : (packet : List ℕ) → Passes packet → prio_of packet < 4
few_prio packet is =
    let second : get_or packet 1 0 < 256 = is.range 1 0 (omega (arith, is.least))
    in
    omega (arith, second)

-- ---- a device keeps its ports

device_ports : (at : ℕ) (request : Option Request) (device : Registers)
    → (device_after at request device).ports ≡ device.ports
device_ports at None device = refl
device_ports at (Some request) device = (answered_same device request at).ports

-- how many ports each device has
abbrev pub count_ports : Registers → ℕ
count_ports device = device.ports

pub counts_stay : (net : Network) (step : Step)
    → map count_ports (after net step).registers ≡ map count_ports net.registers
counts_stay net (Linked (Hold q packet)) =
    ap (map count_ports) (registers_stay net (Linked (Hold q packet)) refl)
counts_stay net (Linked (Free p packet)) = refl
counts_stay net (AtNode (Take m packet)) = refl
counts_stay net (AtNode (Leave m packet)) = refl
counts_stay net (ByDevice (Move p q packet)) = refl
counts_stay net (ByDevice (Drop p packet)) = refl
counts_stay net (ByDevice (Answer p packet response)) =
    map-with_device count_ports net.registers p.node (device_after p.port (request_of packet))
    (device_ports p.port (request_of packet))

pub ports_stay : (net : Network) (step : Step) (n : ℕ)
    → option_map count_ports (slice_get (after net step).registers n)
    ≡ option_map count_ports (slice_get net.registers n)
ports_stay net step n =
    sym (slice_get-map count_ports (after net step).registers n)
    ∙ ap (λ (l : List ℕ). slice_get l n) (counts_stay net step)
    ∙ slice_get-map count_ports net.registers n

has_port : (o u : Option Registers) (port : ℕ) → option_map count_ports u ≡ option_map count_ports o
    → HasPort o port → HasPort u port
has_port None u port same has = absurd has
has_port (Some device) None port same has = absurd cc
has_port (Some device) (Some other) port same has =
    let is : other.ports ≡ device.ports = cc
    in
    omega (arith, has, is)

pub port_on : (net : Network) (step : Step) (p : PortRef) → IsPortOf net.registers p
    → IsPortOf (after net step).registers p
port_on net step p is =
    has_port (slice_get net.registers p.node) (slice_get (after net step).registers p.node) p.port
    (ports_stay net step p.node) is

pub port_before : (net : Network) (step : Step) (p : PortRef)
    → IsPortOf (after net step).registers p → IsPortOf net.registers p
port_before net step p is =
    has_port (slice_get (after net step).registers p.node) (slice_get net.registers p.node) p.port
    (sym (ports_stay net step p.node)) is

pub joins_on : (net : Network) (step : Step) → JoinsNodes net → JoinsNodes (after net step)
joins_on net step joins = record {
  endpoints =
      λ n is. port_on net step (port_of n)
      (joins.endpoints n (sym (switches_stay net step n) ∙ is));
  links = λ p q peer. (let own = joins.links p q
      (ap (λ links. peer_in links p) (sym (links_stay net step)) ∙ peer) in
      (port_on net step p own.0, port_on net step q own.1));
}

-- ---- lists of items

all_of : (P : Type 0) (items : List Item) → P → AllByRecursion (λ item. P) items
all_of P [] own = tt
all_of P (item ∷ items) own = (own, all_of P items own)

pub first_of_all : (P : Type 0) (items : List Item) (packet : List ℕ)
    → first_packet items ≡ Some packet → AllByRecursion (λ item. P) items → P
first_of_all P [] packet is all = absurd cc
first_of_all P (item ∷ items) packet is all = all.0

all_behind : (P : Type 0) (items : List Item) → AllByRecursion (λ item. P) items
    → AllByRecursion (λ item. P) (behind_first items)
all_behind P [] all = tt
all_behind P (item ∷ items) all = all.1

-- all items of lanes stand at spots
abbrev AreThere : List Registers → Lanes → Type 0
AreThere devices lanes =
    (p : PortRef) (r : ℕ) → AllByRecursion (λ item. IsSpot devices p r) (lanes p r)

-- a lane is changed
lane_there : (devices : List Registers) (lanes : Lanes) (p : PortRef) (r : ℕ) (items : List Item)
    → AreThere devices lanes → AllByRecursion (λ item. IsSpot devices p r) items
    → AreThere devices (with_lane lanes p r items)
lane_there devices lanes p r items all own q s = by_test (same_port q p) (s == r) refl refl
  where
    by_test : (t u : Bool) → same_port q p ≡ t → (s == r) ≡ u
        → AllByRecursion (λ item. IsSpot devices q s)
        (if same_port q p && (s == r) then items else lanes q s)
    by_test true true a b =
        let here : p ≡ q = sym (port_is q p a) in
        let there : r ≡ s = sym (eqb-true s r b) in
        subst (λ x. AllByRecursion (λ item. IsSpot devices q s)
        (if x && (s == r) then items else lanes q s)) (sym a)
        (subst (λ x. AllByRecursion (λ item. IsSpot devices q s) (if x then items else lanes q s))
        (sym b)
        (subst (λ x. AllByRecursion (λ item. IsSpot devices x s) items) here
        (subst (λ x. AllByRecursion (λ item. IsSpot devices p x) items) there own)))
    by_test true false a b =
        subst (λ x. AllByRecursion (λ item. IsSpot devices q s)
        (if x && (s == r) then items else lanes q s)) (sym a)
        (subst (λ x. AllByRecursion (λ item. IsSpot devices q s) (if x then items else lanes q s))
        (sym b) (all q s))
    by_test false u a b =
        subst (λ x. AllByRecursion (λ item. IsSpot devices q s)
        (if x && (s == r) then items else lanes q s)) (sym a) (all q s)

-- ---- a switch names one of its own ports

named_low : (device : Registers) (dest port : ℕ) (test : Bool)
    → is_switch device && nat_lt (port_named device dest) device.ports ≡ test
    → (if test then Some (port_named device dest) else None) ≡ Some port → port < device.ports
named_low device dest port true is named =
    let low = ltb-true (port_named device dest) device.ports
    (and_parts (is_switch device) (nat_lt (port_named device dest) device.ports) is).1 in
    let same : port_named device dest ≡ port = cc in
    subst (λ x. x < device.ports) same low
named_low device dest port false is named = absurd cc

to_low : (device : Registers) (dest port : ℕ) (o : Option ℕ) → next_port device dest ≡ o
    → to_port o ≡ Port port → port < device.ports
to_low device dest port None is to = absurd cc
to_low device dest port (Some own) is to =
    let same : Some own ≡ Some port = cc in
    named_low device dest port
    (is_switch device && nat_lt (port_named device dest) device.ports) refl (is ∙ same)

named_to : (foreign end asks : Bool) (route : Next) (port : ℕ)
    →
    (if foreign then Nowhere else (if end then (if asks then RegisterUnit else Nowhere) else route))
    ≡ Port port → route ≡ Port port
named_to true end asks route port is = absurd cc
named_to false true true route port is = absurd cc
named_to false true false route port is = absurd cc
named_to false false asks route port is = is

next_low : (device : Registers) (packet : List ℕ) (port : ℕ) → next_of device packet ≡ Port port
    → port < device.ports
next_low device packet port is =
    by_dest (dest_of packet)
    (named_to (is_foreign packet) (is_at_end packet) (is_request packet) _ port is)
  where
    by_dest : (dest : Option ℕ) → to_port (option_and_then (next_port device) dest) ≡ Port port
        → port < device.ports
    by_dest None to = absurd cc
    by_dest (Some own) to = to_low device own port (next_port device own) refl to

pub next_there : (net : Network) (n : ℕ) (packet : List ℕ) (port : ℕ)
    → next_at net n packet ≡ Some (Port port) → HasPort (slice_get net.registers n) port
next_there net n packet port is = by_found (slice_get net.registers n) refl is
  where
    by_kind : (device : Registers) (kind : Bool)
        → (if kind then Some (next_of device packet) else None) ≡ Some (Port port)
        → port < device.ports
    by_kind device true is =
        (let same : next_of device packet ≡ Port port = cc in next_low device packet port same)
    by_kind device false is = absurd cc

    by_found : (o : Option Registers) → slice_get net.registers n ≡ o
        → option_and_then
        (λ device. if is_switch device then Some (next_of device packet) else None) o
        ≡ Some (Port port) → HasPort o port
    by_found None at is = absurd cc
    by_found (Some device) at is = by_kind device (is_switch device) is

-- ---- one step

there_by : (net : Network) (received waiting : Lanes) → AreThere net.registers received
    → AreThere net.registers waiting
    → StandAtNodes (record net { received = received; waiting = waiting })
there_by net received waiting one other = record { received = one; waiting = other }

spot_on : (net : Network) (step : Step) (lanes : Lanes) → AreThere net.registers lanes
    → AreThere (after net step).registers lanes
spot_on net step lanes all p r =
    all_weaker (λ _. IsSpot net.registers p r) (λ _. IsSpot (after net step).registers p r)
    (λ _ own. (port_on net step p own.0, own.1)) (lanes p r) (all p r)

pub stands_on : (net : Network) (step : Step) → JoinsNodes net → Needs net step → StandAtNodes net
    → StandAtNodes (after net step)
stands_on net (Linked (Hold q packet)) joins (p, peer, first, room) stand =
    let r = prio_of packet in
    let near = first_of_all _ (net.waiting p r) packet first (stand.waiting p r) in
    let own : IsSpot net.registers q r = ((joins.links q p peer).0, near.1) in
    subst (λ (o : Option PortRef). StandAtNodes (after_hold net q o r)) (sym peer) (record {
      received = lane_there net.registers net.received q r _ stand.received (all_of _ _ own);
      waiting =
          lane_there net.registers net.waiting p r _ stand.waiting
          (all_behind _ (net.waiting p r) (stand.waiting p r));
    })
stands_on net (Linked (Free p packet)) joins needs stand = record {
  received = stand.received;
  waiting = stand.waiting;
}
stands_on net (AtNode (Take n packet)) joins needs stand =
    let own : IsSpot net.registers (port_of n) (prio_of packet) =
    (joins.endpoints n needs.0, few_prio packet needs.1) in
    record {
      received = stand.received;
      waiting = lane_there net.registers net.waiting (port_of n) (prio_of packet) _ stand.waiting
          (all_of _ _ own);
    }
stands_on net (AtNode (Leave n packet)) joins needs stand =
    let r = prio_of packet in
    record {
      received = lane_there net.registers net.received (port_of n) r _ stand.received
          (all_behind _ (net.received (port_of n) r) (stand.received (port_of n) r));
      waiting =
          stand.waiting;
    }
stands_on net (ByDevice (Move p q packet)) joins needs stand =
    let r = prio_of packet in
    let near = first_of_all _ (net.received p r) packet needs.1 (stand.received p r) in
    let there = subst (λ n. HasPort (slice_get net.registers n) q.port) (sym needs.0)
    (next_there net p.node packet q.port needs.2) in
    let own : IsSpot net.registers q r = (there, near.1) in
    record {
      received =
          lane_there net.registers net.received p r _ stand.received
          (all_behind _ (net.received p r) (stand.received p r));
      waiting = lane_there net.registers net.waiting q r _ stand.waiting (all_of _ _ own);
    }
stands_on net (ByDevice (Drop p packet)) joins needs stand =
    let r = prio_of packet in
    record {
      received = lane_there net.registers net.received p r _ stand.received
          (all_behind _ (net.received p r) (stand.received p r));
      waiting = stand.waiting;
    }
stands_on net (ByDevice (Answer p packet response)) joins needs stand =
    let r = prio_of packet in
    let near = first_of_all _ (net.received p r) packet needs.0 (stand.received p r) in
    let own : IsSpot net.registers p (prio_of response) = (near.0, few_prio response needs.3) in
    record {
      received =
          spot_on net (ByDevice (Answer p packet response)) _
          (lane_there net.registers net.received p r _ stand.received
          (all_behind _ (net.received p r) (stand.received p r)));
      waiting =
          spot_on net (ByDevice (Answer p packet response)) _
          (lane_there net.registers net.waiting p (prio_of response) _ stand.waiting
          (all_of _ _ own));
    }

-- ---- all steps

pub stand_along : (start : Network) (steps : List Step) (end : Network) → JoinsNodes start
    → StandAtNodes start → LegalFrom start steps end → JoinsNodes end × StandAtNodes end
stand_along start [] end joins stand legal =
    (subst JoinsNodes (sym legal) joins, subst StandAtNodes (sym legal) stand)
stand_along start (step ∷ steps) end joins stand legal =
    stand_along (after start step) steps end (joins_on start step joins)
    (stands_on start step joins legal.0 stand) legal.1

pub empty_stands : (net : Network) → IsEmptyNetwork net → StandAtNodes net
empty_stands net empty = record {
  received = λ p r. subst (AllByRecursion (λ item. IsSpot net.registers p r))
      (sym (empty.received p r)) tt;
  waiting = λ p r. subst (AllByRecursion (λ item. IsSpot net.registers p r))
      (sym (empty.waiting p r)) tt;
}

pub all_at_nodes : (start : Network) (steps : List Step) (end : Network) → IsEmptyNetwork start
    → JoinsNodes start → LegalFrom start steps end → StandAtNodes end
all_at_nodes start steps end empty joins legal =
    (stand_along start steps end joins (empty_stands start empty) legal).1
