-- Each step of a device leaves one packet fewer in what the ports of its node have received: the
-- steps end.
use Rattle.fabric_model.proofs.Prelude.{◌≡◌, inl, inr, ℕ, zero, suc, ◌+◌, ◌<◌, ◌≤◌, ◌==◌, ◌&&◌, Bool, true, false, List, [], ◌∷◌, ◌++◌, length, Some, refl, sym, ap, ◌∙◌, subst, arith, if◌then◌else◌, length-append, eqb-true, cases_Bool, false_from_ne_true, nat_tests, prio_of, PortRef, Item, Lanes, Network, same_port, with_lane, first_packet, in_turn, DeviceStep, Move, Drop, Answer, ByDevice, Needs, IsFirst, behind_first, without_first, after}
use Rattle.fabric_model.proofs.Peers.{same_port-refl}

-- the port whose packet a device takes, and the packet
abbrev pub port_by : DeviceStep → PortRef
port_by (Move p q packet) = p
port_by (Drop p packet) = p
port_by (Answer p packet response) = p

abbrev pub packet_by : DeviceStep → List ℕ
packet_by (Move p q packet) = packet
packet_by (Drop p packet) = packet
packet_by (Answer p packet response) = packet

-- how many packets stand in the lanes of so many ports of a node, from port 0 up
abbrev pub packets_at : Lanes → ℕ → ℕ → ℕ
packets_at lanes node zero = 0
packets_at lanes node (suc n) = length (in_turn (lanes record { node = node; port = n }))
    + packets_at lanes node n

-- ---- one port

pub turn_length : (lanes : ℕ → List Item) → length (in_turn lanes) ≡ length (lanes 3)
    + (length (lanes 2) + (length (lanes 1) + length (lanes 0)))
turn_length lanes =
    let low = length-append (lanes 1) (lanes 0) in
    let mid = length-append (lanes 2) (lanes 1 ++ lanes 0) in
    let high = length-append (lanes 3) (lanes 2 ++ (lanes 1 ++ lanes 0)) in
    omega (arith, low, mid, high)

pub behind_length : (items : List Item) (packet : List ℕ) → first_packet items ≡ Some packet
    → length (behind_first items) + 1 ≡ length items
behind_length [] packet is = absurd (cc)
behind_length (item ∷ items) packet is = omega arith

-- lanes of which one is replaced, by whether it is this port's
abbrev pub lanes_if : Bool → (ℕ → List Item) → ℕ → List Item → ℕ → List Item
lanes_if own lanes r items s = if own && (s == r) then items else lanes s

one_shorter : (lanes : ℕ → List Item) (r : ℕ) (items : List Item) → r < 4 → length items + 1
    ≡ length (lanes r) → length (in_turn (lanes_if true lanes r items)) + 1 ≡ length (in_turn lanes)
one_shorter lanes zero items few fewer =
    let old = turn_length lanes in
    let new = turn_length (lanes_if true lanes 0 items) in omega (arith, old, new, fewer)
one_shorter lanes (suc zero) items few fewer =
    let old = turn_length lanes in
    let new = turn_length (lanes_if true lanes 1 items) in omega (arith, old, new, fewer)
one_shorter lanes (suc (suc zero)) items few fewer =
    let old = turn_length lanes in
    let new = turn_length (lanes_if true lanes 2 items) in omega (arith, old, new, fewer)
one_shorter lanes (suc (suc (suc zero))) items few fewer =
    let old = turn_length lanes in
    let new = turn_length (lanes_if true lanes 3 items) in omega (arith, old, new, fewer)
one_shorter lanes (suc (suc (suc (suc r)))) items few fewer = absurd (omega arith)

pub own_shorter : (lanes : Lanes) (p : PortRef) (r : ℕ) (items : List Item) → r < 4 → length items
    + 1
    ≡ length (lanes p r) → length (in_turn (with_lane lanes p r items p)) + 1
    ≡ length (in_turn (lanes p))
own_shorter lanes p r items few fewer =
    ap (λ own. length (in_turn (lanes_if own (lanes p) r items)) + 1) (same_port-refl p)
    ∙ one_shorter (lanes p) r items few fewer

-- ---- all ports of a node

apart_port : (p : PortRef) (n : ℕ) → (n == p.port) ≡ false
    → same_port (record { node = p.node; port = n }) p ≡ false
apart_port p n other = elim (p.node == p.node) as (λ b. (b && (n == p.port)) ≡ false)
    [ true ↦ other | false ↦ refl ]

other_same : (lanes : Lanes) (p : PortRef) (r : ℕ) (items : List Item) (n : ℕ) → (n == p.port)
    ≡ false
    → length (in_turn (with_lane lanes p r items (record { node = p.node; port = n })))
    ≡ length (in_turn (lanes (record { node = p.node; port = n })))
other_same lanes p r items n other =
    ap (λ own. length (in_turn (lanes_if own (lanes (record { node = p.node; port = n })) r items)))
    (apart_port p n other)

before_same : (lanes : Lanes) (p : PortRef) (r : ℕ) (items : List Item) (n : ℕ) → n ≤ p.port
    → packets_at (with_lane lanes p r items) p.node n ≡ packets_at lanes p.node n
before_same lanes p r items zero below = refl
before_same lanes p r items (suc n) below =
    let other : (n == p.port) ≡ false = false_from_ne_true (n == p.port)
    (λ same. let is = eqb-true n p.port same in absurd (omega arith)) in
    let here = other_same lanes p r items n other in
    let rest = before_same lanes p r items n (omega arith) in
    λ i. here i + rest i

one_fewer : (lanes : Lanes) (p : PortRef) (r : ℕ) (items : List Item) (ports : ℕ) → r < 4
    → length items + 1 ≡ length (lanes p r) → p.port < ports
    → packets_at (with_lane lanes p r items) p.node ports + 1 ≡ packets_at lanes p.node ports
one_fewer lanes p r items zero few fewer below = absurd (omega arith)
one_fewer lanes p r items (suc n) few fewer below =
    elim (cases_Bool (n == p.port)) [
      | inl own ↦
          let same : n ≡ p.port = eqb-true n p.port own in
          let here : length
          (in_turn (with_lane lanes p r items (record { node = p.node; port = n }))) + 1
          ≡ length (in_turn (lanes (record { node = p.node; port = n }))) =
          subst (λ k. length
          (in_turn (with_lane lanes p r items (record { node = p.node; port = k }))) + 1
          ≡ length (in_turn (lanes (record { node = p.node; port = k })))) (sym same)
          (own_shorter lanes p r items few fewer) in
          let rest = before_same lanes p r items n (omega arith) in
          omega (arith, here, rest)
      | inr other ↦
          let here = other_same lanes p r items n other in
          let rest = one_fewer lanes p r items n few fewer (grind (arith, nat_tests, other, below))
          in
          omega (arith, here, rest)
    ]

first_fewer : (net : Network) (p : PortRef) (packet : List ℕ) (ports : ℕ) → IsFirst net p packet
    → prio_of packet < 4 → p.port < ports
    → packets_at (without_first net p (prio_of packet)).received p.node ports + 1
    ≡ packets_at net.received p.node ports
first_fewer net p packet ports first few below =
    let r = prio_of packet in
    one_fewer net.received p r (behind_first (net.received p r)) ports few
    (behind_length (net.received p r) packet first) below

-- whatever a device does with a packet, its ports have received one fewer then
pub step_empties : (net : Network) (step : DeviceStep) (ports : ℕ) → Needs net (ByDevice step)
    → prio_of (packet_by step) < 4 → (port_by step).port < ports
    → packets_at (after net (ByDevice step)).received (port_by step).node ports + 1
    ≡ packets_at net.received (port_by step).node ports
step_empties net (Move p q packet) ports needs few below =
    first_fewer net p packet ports needs.1 few below
step_empties net (Drop p packet) ports needs few below = first_fewer net p packet ports needs.0 few
    below
step_empties net (Answer p packet response) ports needs few below =
    first_fewer net p packet ports needs.0 few below
