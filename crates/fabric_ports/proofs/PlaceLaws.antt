-- Each port of a fabric has a place of its own.
use Rattle.std.proofs.Common.{◌≡◌, ◌≢◌, ℕ, zero, suc, ◌+◌, ◌<◌, ◌≤◌, false, List, [], ◌∷◌, length, slice_get, slice_index_or, get_or, subst, ap, ◌∙◌, arith}
use Rattle.std.proofs.lemmas.List.{get_or_default}
use Rattle.fabric_script.specs.declared.ports.PortRef.{PortRef}
use Rattle.fabric_model.specs.Network.{same_port}
use Rattle.fabric_model.proofs.Peers.{same_port-refl}
use Rattle.maint_registers.specs.Devices.{Registers}
use Rattle.fabric_ports.specs.Places.{AreFirsts, port_count, HasPort, IsPortOf, place_of}

-- the ports of a device stand between those before it and the end
pub record IsAmong (base : ℕ) (devices : List Registers) (firsts : List ℕ)
    (n port : ℕ) : Type 0 where
  pub from : base ≤ slice_index_or firsts n 0 + port
  pub below : slice_index_or firsts n 0 + port < base + port_count devices

pub among : (base : ℕ) (devices : List Registers) (firsts : List ℕ) (n port : ℕ)
    → AreFirsts base devices firsts
    → HasPort (slice_get devices n) port → IsAmong base devices firsts n port
among base [] [] n port are has = absurd has
among base [] (first ∷ firsts) n port are has = absurd are
among base (device ∷ devices) [] n port are has = absurd are
among base (device ∷ devices) (first ∷ firsts) zero port are has =
    let start = are.0 in
    record { from = omega (arith, start, has); below = omega (arith, start, has) }
among base (device ∷ devices) (first ∷ firsts) (suc n) port are has =
    let later = among (base + device.ports) devices firsts n port are.1 has in
    let from = later.from in
    let below = later.below in
    record { from = omega (arith, from); below = omega (arith, below) }

-- ports of two devices have two places
pub nodes_apart : (base : ℕ) (devices : List Registers) (firsts : List ℕ) (m n j k : ℕ)
    → AreFirsts base devices firsts
    → HasPort (slice_get devices m) j → HasPort (slice_get devices n) k → m < n
    → slice_index_or firsts m 0 + j < slice_index_or firsts n 0 + k
nodes_apart base [] [] m n j k are first second less = absurd first
nodes_apart base [] (place ∷ firsts) m n j k are first second less = absurd are
nodes_apart base (device ∷ devices) [] m n j k are first second less = absurd are
nodes_apart base (device ∷ devices) (place ∷ firsts) m zero j k are first second less =
    absurd (omega (arith, less))
nodes_apart base (device ∷ devices) (place ∷ firsts) zero (suc n) j k are first second less =
    let start = are.0 in
    let later = (among (base + device.ports) devices firsts n k are.1 second).from in
    omega (arith, start, first, later)
nodes_apart base (device ∷ devices) (place ∷ firsts) (suc m) (suc n) j k are first second less =
    nodes_apart (base + device.ports) devices firsts m n j k are.1 first second
    (omega (arith, less))

pub place_within : (devices : List Registers) (firsts : List ℕ) (p : PortRef)
    → AreFirsts 0 devices firsts → IsPortOf devices p
    → place_of firsts p < port_count devices
place_within devices firsts p are has = let below =
    (among 0 devices firsts p.node p.port are has).below in omega (arith, below)

pub same_place : (devices : List Registers) (firsts : List ℕ) (p q : PortRef)
    → AreFirsts 0 devices firsts → IsPortOf devices p
    → IsPortOf devices q → place_of firsts p ≡ place_of firsts q → p ≡ q
same_place devices firsts p q are first second same =
    let one = nodes_apart 0 devices firsts p.node q.node p.port q.port are first second in
    let other = nodes_apart 0 devices firsts q.node p.node q.port p.port are second first in
    let node : p.node ≡ q.node = by_order (λ less. (let h = one less in omega (arith, h, same)))
    (λ less. (let h = other less in omega (arith, h, same))) in
    let starts = ap (λ n. slice_index_or firsts n 0) node in
    let port : p.port ≡ q.port = omega (arith, same, starts) in
    λ i. record { node = node i; port = port i }
  where
    by_order : (p.node < q.node → ⊥) → (q.node < p.node → ⊥) → p.node ≡ q.node
    by_order not_less not_more = omega (arith, not_less, not_more)

pub places_apart : (devices : List Registers) (firsts : List ℕ) (p q : PortRef)
    → AreFirsts 0 devices firsts → IsPortOf devices p
    → IsPortOf devices q → same_port p q ≡ false → place_of firsts p ≢ place_of firsts q
places_apart devices firsts p q are first second apart = λ same.
    let one = same_place devices firsts p q are first second same in
    absurd (cc (subst (λ x. same_port x q ≡ false) one apart, same_port-refl q))

-- a device that has a port has a first one
pub first_within : (base : ℕ) (devices : List Registers) (firsts : List ℕ) (n port : ℕ)
    → AreFirsts base devices firsts
    → HasPort (slice_get devices n) port → n < length firsts
first_within base [] [] n port are has = absurd has
first_within base [] (first ∷ firsts) n port are has = absurd are
first_within base (device ∷ devices) [] n port are has = absurd are
first_within base (device ∷ devices) (first ∷ firsts) zero port are has = omega arith
first_within base (device ∷ devices) (first ∷ firsts) (suc n) port are has =
    let later = first_within (base + device.ports) devices firsts n port are.1 has in
    omega (arith, later)

-- what was read is the place of a port
pub record IsRead (devices : List Registers) (firsts : List ℕ) (p : PortRef) (place : ℕ) : Type 0
  where
    pub is : place ≡ place_of firsts p
    pub within : place < port_count devices

-- it is, if the place of its device's first port was read
pub place_read : (devices : List Registers) (firsts : List ℕ) (p : PortRef) {node first port : ℕ}
    → AreFirsts 0 devices firsts → IsPortOf devices p
    → node ≡ p.node → first ≡ get_or firsts node first → port ≡ p.port
    → IsRead devices firsts p (first + port)
place_read devices firsts p {node = node} {first = first} are has same value ends =
    let at = first_within 0 devices firsts p.node p.port are has in
    let here : node < length firsts = omega (arith, at, same) in
    let read : first ≡ slice_index_or firsts p.node 0 = value
    ∙ get_or_default firsts node first 0 here ∙ ap (λ n. get_or firsts n 0) same in
    let below = place_within devices firsts p are has in
    record { is = omega (arith, read, ends); within = omega (arith, read, ends, below) }
