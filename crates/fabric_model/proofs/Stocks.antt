-- What was taken stands at a port, has left or was dropped: an answer ends one packet and gives
-- one.
use Rattle.fabric_model.proofs.Prelude.{◌≡◌, ℕ, zero, suc, ◌+◌, ◌<◌, ◌≤◌, inl, inr, slice_get, ◌∙◌, ◌==◌, ◌&&◌, Bool, true, false, List, [], ◌∷◌, ◌++◌, length, map, Option, Some, refl, sym, ap, subst, arith, if◌then◌else◌, length-append, eq-eqb, ne_eqb, cases_lt, eqb_tells, prio_of, Registers, PortRef, Item, Lanes, Network, same_port, port_of, with_lane, peer_in, first_packet, in_turn, Hold, Free, Take, Leave, Move, Drop, Answer, Step, Linked, AtNode, ByDevice, Needs, behind_first, only_first, after_hold, moved_item, without_first, item_of, after, LegalFrom, IsEmptyNetwork, HasPort, IsPortOf, JoinsNodes, IsSpot, StandAtNodes, ports_of_node, ports_from, all_ports}
use Rattle.fabric_model.specs.Laws.Stock.{Balances, stands_in, stock, takes_by, leaves_by, drops_by, steps_in, how_often_port, IsOne, AreOnes, StandOnce}
use Rattle.fabric_model.proofs.Nodes.{count_ports, counts_stay, port_before, joins_on, next_there, first_of_all, stands_on, empty_stands, few_prio}
use Rattle.fabric_model.proofs.Peers.{port_is}
use Rattle.fabric_model.proofs.Emptying.{turn_length, behind_length, lanes_if}

-- ---- one port

one_changed : (lanes : ℕ → List Item) (r : ℕ) (items : List Item) → r < 4
    → length (in_turn (lanes_if true lanes r items)) + length (lanes r)
    ≡ length (in_turn lanes) + length items
one_changed lanes zero items few =
    let old = turn_length lanes in
    let new = turn_length (lanes_if true lanes 0 items) in omega (arith, old, new)
one_changed lanes (suc zero) items few =
    let old = turn_length lanes in
    let new = turn_length (lanes_if true lanes 1 items) in omega (arith, old, new)
one_changed lanes (suc (suc zero)) items few =
    let old = turn_length lanes in
    let new = turn_length (lanes_if true lanes 2 items) in omega (arith, old, new)
one_changed lanes (suc (suc (suc zero))) items few =
    let old = turn_length lanes in
    let new = turn_length (lanes_if true lanes 3 items) in omega (arith, old, new)
one_changed lanes (suc (suc (suc (suc r)))) items few = absurd (omega arith)

-- ---- all ports

module _ (lanes : Lanes) (p : PortRef) (r : ℕ) (items : List Item) (few : r < 4) where
  none_changed : (ports : List PortRef) → how_often_port p ports ≡ 0
      → stands_in (with_lane lanes p r items) ports ≡ stands_in lanes ports
  none_changed [] none = refl
  none_changed (q ∷ ports) none = by_test (none_changed ports) (same_port q p) none
    where
      by_test :
          (how_often_port p ports ≡ 0 → stands_in (with_lane lanes p r items) ports
          ≡ stands_in lanes ports)
          → (own : Bool) → (if own then 1 else 0) + how_often_port p ports ≡ 0
          → length (in_turn (lanes_if own (lanes q) r items))
          + stands_in (with_lane lanes p r items) ports
          ≡ length (in_turn (lanes q)) + stands_in lanes ports
      by_test later true none = absurd (omega arith)
      by_test later false none = let rest = later (omega arith) in omega (arith, rest)

  once_changed : (ports : List PortRef) → how_often_port p ports ≡ 1
      → stands_in (with_lane lanes p r items) ports + length (lanes p r)
      ≡ stands_in lanes ports + length items
  once_changed [] once = absurd (omega arith)
  once_changed (q ∷ ports) once = by_test (once_changed ports) (same_port q p) refl once
    where
      by_test :
          (how_often_port p ports ≡ 1 → stands_in (with_lane lanes p r items) ports
          + length (lanes p r) ≡ stands_in lanes ports + length items)
          → (own : Bool) → same_port q p ≡ own → (if own then 1 else 0) + how_often_port p ports ≡ 1
          → length (in_turn (lanes_if own (lanes q) r items)) + stands_in
          (with_lane lanes p r items) ports + length (lanes p r) ≡ length
          (in_turn (lanes q)) + stands_in lanes ports + length items
      by_test later true is once =
          let rest = none_changed ports (omega arith) in
          let here = one_changed (lanes q) r items few in
          let same : length (lanes q r) ≡ length (lanes p r) =
          ap (λ (x : PortRef). length (lanes x r)) (port_is q p is) in
          omega (arith, rest, here, same)
      by_test later false is once = let rest = later (omega arith) in omega (arith, rest)

-- ---- first packets

only_length : (items : List Item) (packet : List ℕ) → first_packet items ≡ Some packet
    → length (only_first items) ≡ 1
only_length [] packet is = absurd (cc)
only_length (item ∷ items) packet is = refl

moved_length : (items : List Item) (packet : List ℕ) → first_packet items ≡ Some packet
    → length (only_first (map moved_item items)) ≡ 1
moved_length [] packet is = absurd (cc)
moved_length (item ∷ items) packet is = refl

-- ---- one step

abbrev BalancesBy : List PortRef → Step → Network → Network → Type 0
BalancesBy ports step net next =
    takes_by step + stock net ports ≡ leaves_by step + drops_by step + stock next ports

-- one packet goes
gone : (ports : List PortRef) (net : Network) (p : PortRef) (packet : List ℕ)
    → first_packet (net.received p (prio_of packet)) ≡ Some packet → IsOne ports p packet
    → stands_in
    (without_first net p (prio_of packet)).received ports + 1 ≡ stands_in net.received ports
gone ports net p packet first one =
    let r = prio_of packet in
    let changed = once_changed net.received p r (behind_first (net.received p r)) one.few ports
    one.once in
    let fewer = behind_length (net.received p r) packet first in
    omega (arith, changed, fewer)

-- items come to what waits
come : (ports : List PortRef) (lanes : Lanes) (p : PortRef) (r : ℕ) (items : List Item) → r < 4
    → how_often_port p ports ≡ 1 → length items ≡ 1
    → stands_in (with_lane lanes p r (lanes p r ++ items)) ports ≡ stands_in lanes ports + 1
come ports lanes p r items few once one =
    let changed = once_changed lanes p r (lanes p r ++ items) few ports once in
    let more = length-append (lanes p r) items in
    omega (arith, changed, more, one)

step_balances : (ports : List PortRef) (net : Network) (step : Step) → Needs net step
    → AreOnes ports net step → BalancesBy ports step net (after net step)
step_balances ports net (Linked (Hold q packet)) (p, peer, first, room) ones =
    let r = prio_of packet in
    let near = ones.0 in
    let far = ones.1 p peer in
    let one = only_length (net.waiting p r) packet first in
    let came = come ports net.received q r (only_first (net.waiting p r)) near.few near.once one in
    let changed = once_changed net.waiting p r (behind_first (net.waiting p r)) far.few ports
    far.once in
    let fewer = behind_length (net.waiting p r) packet first in
    let own : BalancesBy ports (Linked (Hold q packet)) net (after_hold net q (Some p) r) =
    omega (arith, came, changed, fewer) in
    subst (λ (o : Option PortRef). BalancesBy ports (Linked (Hold q packet)) net
    (after_hold net q o r)) (sym peer) own
step_balances ports net (Linked (Free p packet)) needs ones = refl
step_balances ports net (AtNode (Take n packet)) needs ones =
    let came = come ports net.waiting (port_of n) (prio_of packet)
    (item_of net (port_of n) packet ∷ []) ones.few ones.once refl in
    omega (arith, came)
step_balances ports net (AtNode (Leave n packet)) needs ones =
    let went = gone ports net (port_of n) packet needs.1 ones in
    omega (arith, went)
step_balances ports net (ByDevice (Move p q packet)) needs ones =
    let r = prio_of packet in
    let went = gone ports net p packet needs.1 ones.0 in
    let one = moved_length (net.received p r) packet needs.1 in
    let came = come ports net.waiting q r (only_first (map moved_item (net.received p r)))
    ones.1.few ones.1.once one in
    omega (arith, went, came)
step_balances ports net (ByDevice (Drop p packet)) needs ones =
    let went = gone ports net p packet needs.0 ones in
    omega (arith, went)
step_balances ports net (ByDevice (Answer p packet response)) needs ones =
    let went = gone ports net p packet needs.0 ones.0 in
    let came = come ports net.waiting p (prio_of response)
    (item_of (without_first net p (prio_of packet)) p response ∷ []) ones.1.few ones.1.once
    refl in
    omega (arith, went, came)

pub steps_balance : (ports : List PortRef) (start : Network) (steps : List Step) (end : Network)
    → LegalFrom start steps end → StandOnce ports start steps
    → Balances ports start steps end
steps_balance ports start [] end legal ones =
    let same = ap (λ (net : Network). stock net ports) legal
    in
    omega (arith, same)
steps_balance ports start (step ∷ steps) end legal ones =
    let one = step_balances ports start step legal.0 ones.0 in
    let rest = steps_balance ports (after start step) steps end legal.1 ones.1 in
    omega (arith, one, rest)

-- ---- the ports of all nodes

often-append : (p : PortRef) (xs ys : List PortRef)
    → how_often_port p (xs ++ ys) ≡ how_often_port p xs + how_often_port p ys
often-append p [] ys = omega arith
often-append p (x ∷ xs) ys = let more = often-append p xs ys in omega (arith, more)

-- by the two numbers of a port
abbrev one_if : Bool → ℕ
one_if own = if own then 1 else 0

one_port : (p : PortRef) (node port : ℕ) (t u : Bool) → (node == p.node) ≡ t → (port == p.port) ≡ u
    → one_if (same_port (record { node = node; port = port }) p) ≡ one_if (t && u)
one_port p node port t u a b = ap (λ x. one_if (x && (port == p.port))) a
    ∙ ap (λ x. one_if (t && x)) b

elsewhere_none : (p : PortRef) (node count : ℕ) → (node == p.node) ≡ false
    → how_often_port p (ports_of_node node count) ≡ 0
elsewhere_none p node zero apart = refl
elsewhere_none p node (suc n) apart =
    let one = one_port p node n false (n == p.port) apart refl in
    let more = elsewhere_none p node n apart in
    omega (arith, one, more)

beyond_none : (p : PortRef) (node count : ℕ) → (node == p.node) ≡ true → count ≤ p.port
    → how_often_port p (ports_of_node node count) ≡ 0
beyond_none p node zero same low = refl
beyond_none p node (suc n) same low =
    let one = one_port p node n true false same (ne_eqb n p.port (λ e. omega (arith, e, low))) in
    let more = beyond_none p node n same (omega (arith, low)) in
    omega (arith, one, more)

own_once : (p : PortRef) (node count : ℕ) → (node == p.node) ≡ true → p.port < count
    → how_often_port p (ports_of_node node count) ≡ 1
own_once p node zero same low = absurd (omega (arith, low))
own_once p node (suc n) same low =
    elim (eqb_tells n p.port) [
      | inl (test, is) ↦
          let one = one_port p node n true true same test in
          let more = beyond_none p node n same (omega (arith, is)) in
          omega (arith, one, more)
      | inr (test, apart) ↦
          let one = one_port p node n true false same test in
          let less : p.port < n =
          elim (cases_lt p.port n)
          [ inl less ↦ less | inr most ↦ absurd (apart (omega (arith, low, most))) ] in
          let more = own_once p node n same less in
          omega (arith, one, more)
    ]

before_none : (p : PortRef) (node : ℕ) (counts : List ℕ) → p.node < node
    → how_often_port p (ports_from node counts) ≡ 0
before_none p node [] low = refl
before_none p node (count ∷ counts) low =
    let here = elsewhere_none p node count (ne_eqb node p.node (λ e. omega (arith, e, low))) in
    let more = before_none p (suc node) counts (omega (arith, low)) in
    let both = often-append p (ports_of_node node count) (ports_from (suc node) counts) in
    omega (arith, here, more, both)

-- the port of a node, so many nodes behind the first
ports_once : (p : PortRef) (node k : ℕ) (devices : List Registers) → p.node ≡ node + k
    → HasPort (slice_get devices k) p.port
    → how_often_port p (ports_from node (map count_ports devices)) ≡ 1
ports_once p node k [] is has = absurd has
ports_once p node zero (device ∷ devices) is has =
    let here = own_once p node device.ports (eq-eqb node p.node (omega (arith, is))) has in
    let more = before_none p (suc node) (map count_ports devices) (omega (arith, is)) in
    let both = often-append p (ports_of_node node device.ports)
    (ports_from (suc node) (map count_ports devices)) in
    omega (arith, here, more, both)
ports_once p node (suc k) (device ∷ devices) is has =
    let here = elsewhere_none p node device.ports (ne_eqb node p.node (λ e. omega (arith, e, is)))
    in
    let more = ports_once p (suc node) k devices (omega (arith, is)) has in
    let both = often-append p (ports_of_node node device.ports)
    (ports_from (suc node) (map count_ports devices)) in
    omega (arith, here, more, both)

pub all_once : (devices : List Registers) (p : PortRef) → IsPortOf devices p
    → how_often_port p (all_ports devices) ≡ 1
all_once devices p is = ports_once p 0 p.node devices (omega arith) is

-- ---- so each port that legal steps name stands once

-- each port of a node stands once among these
abbrev Counts : List PortRef → Network → Type 0
Counts ports net = (p : PortRef) → IsPortOf net.registers p → how_often_port p ports ≡ 1

one_of : (net : Network) (ports : List PortRef) (counts : Counts ports net) (p : PortRef)
    (packet : List ℕ) → IsSpot net.registers p (prio_of packet) → IsOne ports p packet
one_of net ports counts p packet spot = record { once = counts p spot.0; few = spot.1 }

step_ones : (ports : List PortRef) (net : Network) (step : Step) → JoinsNodes net → StandAtNodes net
    → Counts ports net → Needs net step → AreOnes ports net step
step_ones ports net (Linked (Hold q packet)) joins stand counts (p, peer, first, room) =
    let r = prio_of packet in
    let spot = first_of_all _ (net.waiting p r) packet first (stand.waiting p r) in
    let same : (o : PortRef) → peer_in net.links q ≡ Some o → p ≡ o =
    λ o is. (let both : Some p ≡ Some o = sym peer ∙ is in cc both) in (
      one_of net ports counts q packet ((joins.links q p peer).0, spot.1),
      λ o is. subst (λ x. IsOne ports x packet) (same o is)
          (one_of net ports counts p packet spot),
    )
step_ones ports net (Linked (Free p packet)) joins stand counts needs = tt
step_ones ports net (AtNode (Take n packet)) joins stand counts needs =
    one_of net ports counts (port_of n) packet (joins.endpoints n needs.0, few_prio packet needs.1)
step_ones ports net (AtNode (Leave n packet)) joins stand counts needs =
    one_of net ports counts (port_of n) packet
    (first_of_all _ (net.received (port_of n) (prio_of packet)) packet needs.1
    (stand.received (port_of n) (prio_of packet)))
step_ones ports net (ByDevice (Move p q packet)) joins stand counts needs =
    let spot = first_of_all _ (net.received p (prio_of packet)) packet needs.1
    (stand.received p (prio_of packet)) in
    let there = subst (λ n. HasPort (slice_get net.registers n) q.port) (sym needs.0)
    (next_there net p.node packet q.port needs.2) in
    (one_of net ports counts p packet spot, one_of net ports counts q packet (there, spot.1))
step_ones ports net (ByDevice (Drop p packet)) joins stand counts needs =
    one_of net ports counts p packet
    (first_of_all _ (net.received p (prio_of packet)) packet needs.0
    (stand.received p (prio_of packet)))
step_ones ports net (ByDevice (Answer p packet response)) joins stand counts needs =
    let spot = first_of_all _ (net.received p (prio_of packet)) packet needs.0
    (stand.received p (prio_of packet)) in (
      one_of net ports counts p packet spot,
      one_of net ports counts p response
          (spot.0, few_prio response needs.3),
    )

ones_along : (ports : List PortRef) (start : Network) (steps : List Step) (end : Network)
    → JoinsNodes start → StandAtNodes start → Counts ports start → LegalFrom start steps end
    → StandOnce ports start steps
ones_along ports start [] end joins stand counts legal = tt
ones_along ports start (step ∷ steps) end joins stand counts legal = (
  step_ones ports start step joins stand counts legal.0,
  ones_along ports (after start step) steps end (joins_on start step joins)
      (stands_on start step joins legal.0 stand) (λ p is. counts p (port_before start step p is))
      legal.1,
)

-- the ports of all nodes stay the same
all_along : (start : Network) (steps : List Step) (end : Network) → LegalFrom start steps end
    → all_ports end.registers ≡ all_ports start.registers
all_along start [] end legal = ap (λ (net : Network). all_ports net.registers) legal
all_along start (step ∷ steps) end legal =
    all_along (after start step) steps end legal.1 ∙ ap (ports_from 0) (counts_stay start step)

pub all_balance : (start : Network) (steps : List Step) (end : Network) → JoinsNodes start
    → StandAtNodes start → LegalFrom start steps end
    → Balances (all_ports end.registers) start steps end
all_balance start steps end joins stand legal =
    subst (λ ports. Balances ports start steps end) (sym (all_along start steps end legal))
    (steps_balance (all_ports start.registers) start steps end legal
    (ones_along (all_ports start.registers) start steps end joins stand
    (all_once start.registers) legal))

-- nothing stands in an empty network
no_lanes : (lanes : Lanes) → ((p : PortRef) (r : ℕ) → lanes p r ≡ []) → (ports : List PortRef)
    → stands_in lanes ports ≡ 0
no_lanes lanes none [] = refl
no_lanes lanes none (p ∷ ports) =
    let more = no_lanes lanes none ports in
    let whole = turn_length (lanes p) in
    let three = ap length (none p 3) in
    let two = ap length (none p 2) in
    let one = ap length (none p 1) in
    let low = ap length (none p 0) in
    omega (arith, more, whole, three, two, one, low)

pub taken_balance : (start : Network) (steps : List Step) (end : Network) → IsEmptyNetwork start
    → JoinsNodes start → LegalFrom start steps end
    → steps_in takes_by steps ≡ steps_in leaves_by steps + steps_in drops_by steps + stock end
    (all_ports end.registers)
taken_balance start steps end empty joins legal =
    let all = all_balance start steps end joins (empty_stands start empty) legal in
    let received = no_lanes start.received empty.received (all_ports end.registers) in
    let waiting = no_lanes start.waiting empty.waiting (all_ports end.registers) in
    omega (arith, all, received, waiting)
